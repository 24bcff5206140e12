use Rattle.std.proofs.Common.{◌≡◌, ◌≤◌, length, get_or}
use Rattle.trials.proofs.Numbers.{signed_is_none, padded_is_none, empty_is_unsigned, parsed}
use Rattle.trials.proofs.call.number.Goals as goal
use Rattle.trials.proofs.call.number.Goals.{else-bytes-gt0-via-then-bytes-gt0+else-bytes-eq43, else-bytes-gt0-via-else-bytes-gt0, else-bytes-gt1-via-then-bytes-gt1+else-bytes-eq48, else-bytes-gt1-via-else-bytes-gt1}

pub returns-then-bytes-eq43 : goal.returns-then-bytes-eq43
returns-then-bytes-eq43 c = rw c.as_bytes-bytes.ensures.value at (signed_is_none c.as_bytes-bytes.result.now c.if-bytes-eq43.true)

pub returns-then-bytes-eq48 : goal.returns-then-bytes-eq48
returns-then-bytes-eq48 c = rw c.as_bytes-bytes.ensures.value at (padded_is_none c.as_bytes-bytes.result.now c.if-bytes-eq48.true c.if-bytes-gt1.true)

pub returns : goal.returns
returns c =
    let plain : get_or c.as_bytes-bytes.result.now 0 0 ≡ 43 → ⊥ = elim c.else-bytes-gt0.branch [
      | else-bytes-gt0-via-then-bytes-gt0+else-bytes-eq43 w ↦ λ e. w.if-bytes-eq43.false e
      | else-bytes-gt0-via-else-bytes-gt0 w ↦ empty_is_unsigned _ w.if-bytes-gt0.false
    ] in
    let short : get_or c.as_bytes-bytes.result.now 0 0 ≡ 48 → length c.as_bytes-bytes.result.now ≤ 1 = elim c.else-bytes-gt1.branch [
      | else-bytes-gt1-via-then-bytes-gt1+else-bytes-eq48 w ↦ λ e. absurd (w.if-bytes-eq48.false e)
      | else-bytes-gt1-via-else-bytes-gt1 w ↦ λ e. w.if-bytes-gt1.false
    ] in
    rw c.ok.ensures.value (parsed _ _ c.parse.ensures.value.0 (rw c.as_bytes-bytes.ensures.value at plain) (rw c.as_bytes-bytes.ensures.value at short))
