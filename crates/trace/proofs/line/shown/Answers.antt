-- `line::shown` meets its contract: five fields and a newline.
use Rattle.model.specs.Trace.{shows}
use Rattle.trace.proofs.Lines.{whole-line, shown-length}
use Rattle.trace.proofs.line.shown.Goals as goal

pub returns : goal.returns
returns c =
    let args = c.args in
    whole-line (shows args.kind args.refusal args.window args.bytes args.timer) (rw c.new-line.ensures at c.put_shown.ensures) c.put_byte.ensures
    (shown-length args.kind args.refusal args.window args.bytes args.timer c.ranges.kind.fits)
