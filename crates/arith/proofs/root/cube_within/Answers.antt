-- `arith::root::cube_within` meets its contract. Three products give the cube's limbs, which decide the comparison.
use Rattle.std.proofs.Common.{◌+◌}
use Rattle.arith.proofs.root.Limbs.{Limbs, cubed, yes-less, no_more, yes-even, no-low, no-mid}
use Rattle.arith.proofs.root.cube_within.Goals.{After-struct_known-2-1}
use Rattle.arith.proofs.root.cube_within.Goals as goal

-- what the three products say together
cube-is : (d : After-struct_known-2-1) → Limbs d.args.q d.product-top.result.high (d.product-top.result.low + d.product-bottom.result.high) d.product-bottom.result.low
cube-is d =
    record {
      is = cubed d.args.q d.product-square.result.high d.product-square.result.low d.product-bottom.result.high d.product-bottom.result.low d.product-top.result.high d.product-top.result.low d.product-square.ensures.0 d.product-bottom.ensures.0 d.product-top.ensures.0;
      low = d.product-bottom.ensures.1;
    }

pub returns-then-whole-a : goal.returns-then-whole-a
returns-then-whole-a c =
    yes-less _ _ _ _ _ (cube-is (goal.at.returns-then-whole-a c).After-struct_known-2-1) c.if-whole-a.true

pub returns-then-a-whole : goal.returns-then-a-whole
returns-then-a-whole c =
    no_more _ _ _ _ _ (cube-is (goal.at.returns-then-a-whole c).After-struct_known-2-1) c.if-a-whole.true

pub returns-then-bottom-eq0 : goal.returns-then-bottom-eq0
returns-then-bottom-eq0 c =
    yes-even _ _ _ _ _ (cube-is (goal.at.returns-then-bottom-eq0 c).After-struct_known-2-1) c.if-a-whole.false c.if-mid-eq0.true c.if-bottom-eq0.true

pub returns-else-bottom-eq0 : goal.returns-else-bottom-eq0
returns-else-bottom-eq0 c =
    no-low _ _ _ _ _ (cube-is (goal.at.returns-else-bottom-eq0 c).After-struct_known-2-1) c.if-whole-a.false c.if-bottom-eq0.false

pub returns-else-mid-eq0 : goal.returns-else-mid-eq0
returns-else-mid-eq0 c =
    no-mid _ _ _ _ _ (cube-is (goal.at.returns-else-mid-eq0 c).After-struct_known-2-1) c.if-whole-a.false c.if-mid-eq0.false
