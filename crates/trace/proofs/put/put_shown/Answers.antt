-- `put::put_shown` meets its contract: the five fields, one after another.
use Rattle.trace.proofs.Puts.{put_same, put_then}
use Rattle.trace.proofs.Lines.{shown-fields}
use Rattle.trace.proofs.put.put_shown.Goals as goal

pub returns : goal.returns
returns c =
    let args = c.args in put_same (shown-fields args.kind args.refusal args.window args.bytes args.timer) (put_then (rw c.from.ensures at c.put_field-after_kind.ensures) (put_then c.put_field-after_refusal.ensures (put_then c.put_field-after_window.ensures (put_then c.put_field-after_bytes.ensures c.put_timer.ensures))))
