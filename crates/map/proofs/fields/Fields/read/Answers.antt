-- A child that has both names is a key.
use Rattle.std.proofs.lemmas.Result.{err_from_is_err_and}
use Rattle.codec.specs.Collection.{map_said}
use Rattle.map.proofs.FieldLaws.{key_refused, key_read, value_refused, value_read, neither}
use Rattle.map.proofs.fields.Fields.read.Goals as goal

pub returns-in_err-key : goal.returns-in_err-key
returns-in_err-key c =
    let p = err_from_is_err_and c.from_residual.result c.from_residual.ensures.1 in
    rw (p.1, p.2)
    (key_refused (map_said c.args.sheet.now) c.args.self.now c.args.child.now c.local-local.ensures c.is_key.ensures c.if-is_key.true
    c.in_err-key.ensures c.args.self.now)

pub returns-then-is_key : goal.returns-then-is_key
returns-then-is_key c =
    key_read (map_said c.args.sheet.now) c.args.self.now c.args.child.now c.local-local.ensures c.is_key.ensures c.if-is_key.true
    c.in_ok-key.key c.in_ok-key.ensures

pub returns-in_err-value : goal.returns-in_err-value
returns-in_err-value c =
    let p = err_from_is_err_and c.from_residual-in_err-value.result c.from_residual-in_err-value.ensures.1 in
    rw (p.1, p.2)
    (value_refused (map_said c.args.sheet.now) c.args.self.now c.args.child.now c.local-local.ensures c.is_key.ensures c.if-is_key.false
    c.is_value.ensures c.if-is_value.true c.value_aggregate.ensures c.in_err-value.ensures c.args.self.now)

pub returns-in_ok-value : goal.returns-in_ok-value
returns-in_ok-value c =
    value_read (map_said c.args.sheet.now) c.args.self.now c.args.child.now c.local-local.ensures c.is_key.ensures c.if-is_key.false
    c.is_value.ensures c.if-is_value.true c.value_aggregate.ensures c.in_ok-value.value c.in_ok-value.ensures

pub returns-else-is_value : goal.returns-else-is_value
returns-else-is_value c =
    neither (map_said c.args.sheet.now) c.args.self.now c.args.child.now c.local-local.ensures c.is_key.ensures c.if-is_key.false
    c.is_value.ensures c.if-is_value.false
