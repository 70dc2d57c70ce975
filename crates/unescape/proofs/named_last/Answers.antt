-- Five names in the definition's order; what begins with none of them is bad.
use Rattle.lists.specs.Bytes.{ascii}
use Rattle.unescape.proofs.Parse.{starts_yes, starts_no}
use Rattle.unescape.specs.Parse.{named_ref}
use Rattle.unescape.proofs.named_last.Goals as goal

pub returns-then-starts_with : goal.returns-then-starts_with
unfolding named_ref
returns-then-starts_with c =
    let s = c.args.rest.now in
    rw (starts_yes (ascii "lt;") s c.starts_with.ensures.value c.if-starts_with.true)

pub returns-then-starts_with-2 : goal.returns-then-starts_with-2
unfolding named_ref
returns-then-starts_with-2 c =
    let s = c.args.rest.now in
    rw (
      starts_no (ascii "lt;") s c.starts_with.ensures.value c.if-starts_with.false,
      starts_yes (ascii "gt;") s c.starts_with-else-starts_with.ensures.value c.if-starts_with-2.true,
    )

pub returns-then-starts_with-3 : goal.returns-then-starts_with-3
unfolding named_ref
returns-then-starts_with-3 c =
    let s = c.args.rest.now in
    rw (
      starts_no (ascii "lt;") s c.starts_with.ensures.value c.if-starts_with.false,
      starts_no (ascii "gt;") s c.starts_with-else-starts_with.ensures.value c.if-starts_with-2.false,
      starts_yes (ascii "amp;") s c.starts_with-else-starts_with-2.ensures.value c.if-starts_with-3.true,
    )

pub returns-then-starts_with-4 : goal.returns-then-starts_with-4
unfolding named_ref
returns-then-starts_with-4 c =
    let s = c.args.rest.now in
    rw (
      starts_no (ascii "lt;") s c.starts_with.ensures.value c.if-starts_with.false,
      starts_no (ascii "gt;") s c.starts_with-else-starts_with.ensures.value c.if-starts_with-2.false,
      starts_no (ascii "amp;") s c.starts_with-else-starts_with-2.ensures.value c.if-starts_with-3.false,
      starts_yes (ascii "quot;") s c.starts_with-else-starts_with-3.ensures.value c.if-starts_with-4.true,
    )

pub returns-then-starts_with-5 : goal.returns-then-starts_with-5
unfolding named_ref
returns-then-starts_with-5 c =
    let s = c.args.rest.now in
    rw (
      starts_no (ascii "lt;") s c.starts_with.ensures.value c.if-starts_with.false,
      starts_no (ascii "gt;") s c.starts_with-else-starts_with.ensures.value c.if-starts_with-2.false,
      starts_no (ascii "amp;") s c.starts_with-else-starts_with-2.ensures.value c.if-starts_with-3.false,
      starts_no (ascii "quot;") s c.starts_with-else-starts_with-3.ensures.value c.if-starts_with-4.false,
      starts_yes (ascii "apos;") s c.starts_with-else-starts_with-4.ensures.value c.if-starts_with-5.true,
    )

pub returns-else-starts_with-5 : goal.returns-else-starts_with-5
unfolding named_ref
returns-else-starts_with-5 c =
    let s = c.args.rest.now in
    rw (
      starts_no (ascii "lt;") s c.starts_with.ensures.value c.if-starts_with.false,
      starts_no (ascii "gt;") s c.starts_with-else-starts_with.ensures.value c.if-starts_with-2.false,
      starts_no (ascii "amp;") s c.starts_with-else-starts_with-2.ensures.value c.if-starts_with-3.false,
      starts_no (ascii "quot;") s c.starts_with-else-starts_with-3.ensures.value c.if-starts_with-4.false,
      starts_no (ascii "apos;") s c.starts_with-else-starts_with-4.ensures.value c.if-starts_with-5.false,
    )
