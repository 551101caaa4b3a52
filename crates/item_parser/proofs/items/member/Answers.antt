use Rattle.item_parser.proofs.MemberWalks.{member_option, member_item}
use Rattle.item_parser.proofs.MemberWalks.{fault_of, items_left, item_read_as, item_fails_as}
use Rattle.item_parser.proofs.items.member.Goals as goal

pub returns-in_err-option-clause-fault : goal.returns-in_err-option-clause-fault
returns-in_err-option-clause-fault c = fault_of _ c.from_residual.ensures.1 ((member_option _ _ c.in-Some.ensures.here).fails c.in_err-option.ensures)

pub returns-in-Some-clause-read : goal.returns-in-Some-clause-read
returns-in-Some-clause-read c = rw (c.of.ensures, c.put.ensures) ((member_option _ _ c.in-Some.ensures.here).reads c.in_ok-option.ensures)

pub returns-clause-read : goal.returns-clause-read
returns-clause-read c = item_read_as _ _ c.item.result (member_item _ _ c.in_default.ensures.none (items_left c.args.reader.text.now c.args.reader.tokens.now c.args.place c.requires c.in_default.ensures.none)) c.item.ensures

pub returns-clause-fault : goal.returns-clause-fault
returns-clause-fault c = item_fails_as _ _ c.item.result (member_item _ _ c.in_default.ensures.none (items_left c.args.reader.text.now c.args.reader.tokens.now c.args.place c.requires c.in_default.ensures.none)) c.item.ensures
