-- A `+` is passed only where it may stand; otherwise the digits begin right here, also at the end of the text.
use Rattle.unescape.proofs.Parse.{sign_laws}
use Rattle.unescape.proofs.past_sign.Goals as goal
use Rattle.unescape.proofs.past_sign.Goals.{else-not-strict-via-then-not-strict+then-start-text+else-text-start-eq43}
use Rattle.unescape.proofs.past_sign.Goals.{else-not-strict-via-then-not-strict+else-start-text, else-not-strict-via-else-not-strict}

pub returns-then-text-start-eq43 : goal.returns-then-text-start-eq43
returns-then-text-start-eq43 c = search sign_laws

pub returns-else-not-strict : goal.returns-else-not-strict
returns-else-not-strict c =
    elim c.else-not-strict.branch [
      | else-not-strict-via-then-not-strict+then-start-text+else-text-start-eq43 w ↦ search sign_laws
      | else-not-strict-via-then-not-strict+else-start-text w ↦ search sign_laws
      | else-not-strict-via-else-not-strict w ↦ search sign_laws
    ]
