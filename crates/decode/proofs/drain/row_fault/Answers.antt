use Rattle.decode.proofs.Faults.{fault_repeated, fault_value, fault_text, fault_matched, fault_mismatched, fault_token, fault_none}
use Rattle.decode.proofs.drain.row_fault.Goals as goal

pub returns-then-is_repeated : goal.returns-then-is_repeated
returns-then-is_repeated c =
    fault_repeated c.args.table.body.now c.args.table.rows.now c.args.top c.args.k c.in-Attribute.ensures
    (rw (c.readable-rows.ensures.body, c.readable-rows.ensures.rows) at c.is_repeated.ensures)
    c.if-is_repeated.true

pub returns-else-is_repeated : goal.returns-else-is_repeated
returns-else-is_repeated c =
    fault_value c.args.table.body.now c.args.table.rows.now c.args.top c.args.k c.in-Attribute.ensures
    (rw (c.readable-rows.ensures.body, c.readable-rows.ensures.rows) at c.is_repeated.ensures)
    c.if-is_repeated.false
    (rw (c.readable-rows.ensures.body, c.readable-rows.ensures.rows) at c.check_references.ensures)

pub returns-in-Text : goal.returns-in-Text
returns-in-Text c =
    fault_text c.args.table.body.now c.args.table.rows.now c.args.top c.args.k c.in-Text.ensures
    (rw (c.readable-rows.ensures.body, c.readable-rows.ensures.rows) at c.check_references-in-Text.ensures)

pub returns-then-same_name : goal.returns-then-same_name
returns-then-same_name c =
    fault_matched c.args.table.body.now c.args.table.rows.now c.args.top c.args.k c.in-Close.ensures
    (rw (c.readable-rows.ensures.body, c.readable-rows.ensures.rows) at c.same_name.ensures) c.if-same_name.true

pub returns-else-same_name : goal.returns-else-same_name
returns-else-same_name c =
    fault_mismatched c.args.table.body.now c.args.table.rows.now c.args.top c.args.k c.in-Close.ensures
    (rw (c.readable-rows.ensures.body, c.readable-rows.ensures.rows) at c.same_name.ensures)
    c.if-same_name.false

pub returns-in-Error : goal.returns-in-Error
returns-in-Error c = fault_token c.args.table.body.now c.args.table.rows.now c.args.top c.args.k c.in-Error.ensures

pub returns-in_default : goal.returns-in_default
returns-in_default c =
    fault_none c.args.table.body.now c.args.table.rows.now c.args.top c.args.k c.kind.result c.kind.ensures c.in_default.not-Attribute
    c.in_default.not-Close
    c.in_default.not-Text c.in_default.not-Error
