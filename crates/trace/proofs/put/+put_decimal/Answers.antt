-- `put::put_decimal` meets its contract: the digits before the last, and the last. The number falls.
use Rattle.std.proofs.Common.{ℕ, [], ◌∷◌, ap, ◌∙◌}
use Rattle.trace.proofs.Puts.{put_same, put_then}
use Rattle.trace.proofs.Digits.{decimal-one, decimal-more}
use Rattle.trace.proofs.put.+put_decimal.Goals as goal

pub returns-then-n-lt10 : goal.returns-then-n-lt10
returns-then-n-lt10 t c =
    put_same (ap (λ (d : ℕ). d ∷ []) c.digit.ensures ∙ decimal-one c.args.n c.if-n-lt10.true) c.put_byte.ensures

pub returns : goal.returns
returns t c =
    put_same (decimal-more c.args.n c.if-n-lt10.false c.ranges.n.fits)
    (put_then c.put_decimal-place.ensures (put_same (ap (λ (d : ℕ). d ∷ []) c.digit-2.ensures) c.put_byte-2.ensures))
