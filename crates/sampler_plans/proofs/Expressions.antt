-- Expressions and selections cross threads: each type by its parts, as a whole and as a field.
use denote.Param.Send.{IsSend, IsSync, sendable}
use Rattle.std.proofs.Crossing.{crosses}
use Rattle.cov_tree.proofs.expr.UnOp.TheSendSync as unary
use Rattle.cov_tree.proofs.expr.BinOp.TheSendSync as binary
use Rattle.cov_tree.proofs.list.List.TheSendSync as list
use Rattle.cov_tree.proofs.boxed.Boxed.TheSendSync as boxed
use Rattle.const_eval.proofs.typs.Typ.TheSendSync as typ
use Rattle.const_eval.proofs.meaning.Meaning.TheSendSync as meaning
use Rattle.const_eval.proofs.bound.Node.TheLaws.TheKnot as typed_knot
use Rattle.const_eval.specs.contracts.bound.Typed as typed
use Rattle.const_eval.specs.contracts.bound.Bound as bound
use Rattle.cross_select.proofs.select.Select.TheLaws.TheKnot as select_knot
use Rattle.cross_select.specs.contracts.select.Select as select

pub typed_field_send : IsSend (typed.the_field).row
typed_field_send = search (sendable, crosses, typed_knot.crosses, typ.the_send, meaning.the_field_send, unary.the_field_send, binary.the_field_send) depth 30

pub typed_field_sync : IsSync (typed.the_field).row
typed_field_sync = search (sendable, crosses, typed_knot.crosses, typ.the_sync, meaning.the_field_sync, unary.the_field_sync, binary.the_field_sync) depth 30

pub bound_send : IsSend bound.the_row
bound_send = search (sendable, crosses, typed_field_send) depth 30

pub bound_sync : IsSync bound.the_row
bound_sync = search (sendable, crosses, typed_field_sync) depth 30

pub select_field_send : IsSend (select.the_field).row
select_field_send = search (sendable, crosses, select_knot.crosses, list.the_send, boxed.the_send) depth 30

pub select_field_sync : IsSync (select.the_field).row
select_field_sync = search (sendable, crosses, select_knot.crosses, list.the_sync, boxed.the_sync) depth 30
