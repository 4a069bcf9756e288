-- `words::put_hex` meets its contract: the digits before the last, and the last. How many more falls.
use Rattle.std.proofs.Common.{ℕ, [], ◌∷◌, ap, ◌∙◌}
use Rattle.trace.proofs.Puts.{put_same, put_then}
use Rattle.field.proofs.Floats.{hex-one, hex-more}
use Rattle.field.proofs.words.+put_hex.Goals as goal

pub returns-then-more-eq0 : goal.returns-then-more-eq0
returns-then-more-eq0 t c =
    put_same (ap (λ (d : ℕ). d ∷ []) c.hex_digit.ensures ∙ hex-one c.args.n c.args.more c.if-more-eq0.true) c.put_byte.ensures

pub returns : goal.returns
returns t c =
    put_same (hex-more c.args.n c.args.more c.if-more-eq0.false)
    (put_then c.put_hex-at.ensures (put_same (ap (λ (d : ℕ). d ∷ []) c.hex_digit-2.ensures) c.put_byte-2.ensures))
