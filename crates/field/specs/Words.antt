-- Words `name=value` as bytes. Definitions only.
use Rattle.std.specs.Prelude.{ℕ, zero, suc, ◌+◌, ◌/◌, ◌%◌, Bool, true, false, cond, List, [], ◌∷◌, ◌++◌, ltb, Float, Option, Some, None}
use Prim.Native.Char.{code}
use Prim.Native.String.{String, [] as []ˢ, ◌∷◌ as ◌∷ˢ◌}
use Rattle.std.specs.Float.{binary64}
use Rattle.std.specs.Float.Ieee.{to_bits}
use Rattle.arith.specs.declared.round.TimeThreshold.{TimeThreshold}
use Rattle.arith.specs.declared.round.TimeThreshold.TheVariants.{NineEighths, FiveFourths}
use Rattle.model.specs.Trace.{decimal}

-- a name's characters
abbrev pub codes : String → List ℕ
codes []ˢ = []
codes (c ∷ˢ s) = code c ∷ codes s

-- what stands before a word, its name, `=` and its value
abbrev pub named : List ℕ → List ℕ → List ℕ → List ℕ
named tag name value = tag ++ (name ++ (61 ∷ value))

abbrev pub word : List ℕ → String → List ℕ → List ℕ
word tag name value = named tag (codes name) value

-- words one after another
abbrev pub sentence : List (List ℕ) → List ℕ
sentence [] = []
sentence (w ∷ l) = w ++ sentence l

-- a blank before each word; before the words of packet number space n, its number and a dot besides
abbrev pub apart : List ℕ
apart = 32 ∷ []

abbrev pub in_space : ℕ → List ℕ
in_space n = 32 ∷ (48 + n) ∷ 46 ∷ []

-- ---- values

-- unset is `-`
abbrev pub number_text : Option ℕ → List ℕ
number_text None = 45 ∷ []
number_text (Some n) = decimal n

abbrev pub bit_text : Bool → List ℕ
bit_text true = 49 ∷ []
bit_text false = 48 ∷ []

abbrev pub threshold_text : TimeThreshold → List ℕ
threshold_text NineEighths = codes "9/8"
threshold_text FiveFourths = codes "5/4"

-- lowercase hex digits, as many as the first argument says
abbrev pub hex_digit : ℕ → ℕ
hex_digit d = cond (ltb d 10) (48 + d) (87 + d)

unfoldable pub hex : ℕ → ℕ → List ℕ → List ℕ
hex zero n l = l
hex (suc k) n l = hex k (n / 16) (hex_digit (n % 16) ∷ l)

-- a float as the 16 hex digits of its bits; a NaN, which has no pattern of its own, as 7ff8000000000000
abbrev pub float_text : Float → List ℕ
float_text x = hex 16 (to_bits binary64 x) []
