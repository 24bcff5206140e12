-- What one task of the third pass does. Assumes nothing.
use Rattle.std.proofs.Common.{◌≡◌, ℕ, ◌<◌, ◌≤◌, true, false, not, ◌&&◌, ltb, length}
use Rattle.std.proofs.lemmas.Bool.{and_from, and_left, and_right, lt-ltb, le-ltb, cond-true, cond-false, not_from_true, not_from_false}
use Rattle.cores.specs.declared.place.Cores.{Cores}
use Rattle.cores.specs.Placing.{first_free, seat, seated, settles, waits}

module _ (n : ℕ) (s : Cores) (t : ℕ) where
  pub settles_free : t < length s.last → seated s t ≡ false → first_free s.held < n → settles n s t ≡ seat s t (first_free s.held)
  settles_free known out free =
      cond-true (waits s t && ltb (first_free s.held) n) (seat s t (first_free s.held)) s
      (and_from (waits s t) (ltb (first_free s.held) n)
      (and_from (ltb t (length s.last)) (not (seated s t)) (lt-ltb t (length s.last) known) (not_from_false (seated s t) out))
      (lt-ltb (first_free s.held) n free))

  pub settles_full : n ≤ first_free s.held → settles n s t ≡ s
  settles_full full =
      cond-false (waits s t && ltb (first_free s.held) n) (seat s t (first_free s.held)) s
      (and_right (waits s t) (ltb (first_free s.held) n) (le-ltb (first_free s.held) n full))

  stays : waits s t ≡ false → settles n s t ≡ s
  stays e =
      cond-false (waits s t && ltb (first_free s.held) n) (seat s t (first_free s.held)) s
      (and_left (waits s t) (ltb (first_free s.held) n) e)

  pub settles_seated : seated s t ≡ true → settles n s t ≡ s
  settles_seated e = stays (and_right (ltb t (length s.last)) (not (seated s t)) (not_from_true (seated s t) e))

  pub settles_unknown : length s.last ≤ t → settles n s t ≡ s
  settles_unknown past = stays (and_left (ltb t (length s.last)) (not (seated s t)) (le-ltb t (length s.last) past))
