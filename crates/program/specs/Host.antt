-- What is told where the host fails. What a host gives and takes no definition says, nor in which words it fails. Definitions only.
use Rattle.std.specs.Prelude.{ℕ, List, ◌≡◌, ◌⊎◌, Some, codes}
use Rattle.std.specs.IoError.{error_kind}
use Rattle.std.specs.declared.io.Error as io
use Rattle.std.specs.declared.io.ErrorKind.TheVariants.{InvalidFilename, InvalidData}
use Rattle.anyhow.specs.Error.{HasNoCause, IsContextOn}
use Rattle.anyhow.specs.declared.error.Error.{Error}

-- an error's message says where it came, and its only cause is what the host says of it
abbrev pub IsToldAs : List ℕ → Error → Type 0
IsToldAs text e = IsContextOn HasNoCause (Some text) e

-- a trace that can't be read is told by its name, one that can't be printed as standard output
abbrev pub IsToldOfTrace : List ℕ → Error → Type 0
IsToldOfTrace name e = IsToldAs name e ⊎ IsToldAs (codes "standard output") e

-- an argument that is no path's: longer than its room, or no text
abbrev pub IsNoPath : io.Error → Type 0
IsNoPath e = (error_kind e ≡ InvalidFilename) ⊎ (error_kind e ≡ InvalidData)
