-- Lists written item by item: what is written, and what is to be written. Assumes nothing.
use Rattle.std.proofs.Common.{◌≡◌, ℕ, ◌+◌, ◌<◌, Bool, true, false, cond, List, [], ◌++◌, length, get_or, drop, None, Option, sym, refl, ap, ◌∙◌, append_assoc, append-nil}
use Rattle.std.proofs.lemmas.List.{at_drop_more}
use Rattle.std.proofs.lemmas.Grind.{put_two}
use Rattle.std.specs.Fmt.{HasWritten, IsPlainFormatter}
use Rattle.std.specs.declared.fmt.Formatter.{Formatter}
use Rattle.packing.specs.Packing.{at_home}
use Rattle.showing.specs.Texts.{client_text, clients_from}

-- What is written, and `rest` that is to be written, are the whole.
abbrev pub Writing : {W : Type 0} → (W → List ℕ → W → Type 0) → Formatter W → Formatter W → List ℕ → List ℕ → Type 0
Writing took f g rest whole = (done : List ℕ) × HasWritten took f done g × (done ++ rest ≡ whole)

pub none_written : {W : Type 0} (took : W → List ℕ → W → Type 0) (f : Formatter W) (whole : List ℕ) → IsPlainFormatter f → Writing took f f whole whole
none_written took f whole plain = ([], record { wrote = record { parts = []; calls = refl; whole = refl }; plain = plain }, refl)

module _ {W : Type 0} (took : W → List ℕ → W → Type 0) (f g : Formatter W) where
  pub one_more_written : (h : Formatter W) (text rest whole : List ℕ) → Writing took f g (text ++ rest) whole → HasWritten took g text h → Writing took f h rest whole
  one_more_written h text rest whole before now =
      (before.0 ++ text, put_two took f g h before.0 text (before.0 ++ text) before.1 now refl, append_assoc before.0 text rest ∙ before.2)

  pub all_written : (whole : List ℕ) → Writing took f g [] whole → HasWritten took f whole g
  all_written whole before = rw (sym (append-nil before.0) ∙ before.2) at before.1

-- ---- the clients of a server

module _ {W : Type 0} (took : W → List ℕ → W → Type 0) (f g : Formatter W) (text : ℕ → List ℕ) (j : ℕ) (homes : List (Option ℕ)) (first : Bool) (i : ℕ) (whole : List ℕ) (below : i < length homes)
    (before : Writing took f g (clients_from text j first i (drop i homes)) whole) where
  -- item i is one, or is none
  pub client_written : (h : Formatter W) → at_home (get_or homes i None) j ≡ true → HasWritten took g (client_text text first i) h
      → Writing took f h (clients_from text j false (i + 1) (drop (i + 1) homes)) whole
  client_written h is now =
      one_more_written took f g h (client_text text first i) (clients_from text j false (i + 1) (drop (i + 1) homes)) whole
      (before.0, before.1, ap (λ t. before.0 ++ t) (sym (at_drop_more (clients_from text j first i) homes i None below ∙ ap (λ b. cond b (client_text text first i ++ clients_from text j false (i + 1) (drop (i + 1) homes)) (clients_from text j first (i + 1) (drop (i + 1) homes))) is)) ∙ before.2) now

  pub other_passed : at_home (get_or homes i None) j ≡ false → Writing took f g (clients_from text j first (i + 1) (drop (i + 1) homes)) whole
  other_passed is =
      (before.0, before.1, ap (λ t. before.0 ++ t) (sym (at_drop_more (clients_from text j first i) homes i None below ∙ ap (λ b. cond b (client_text text first i ++ clients_from text j false (i + 1) (drop (i + 1) homes)) (clients_from text j first (i + 1) (drop (i + 1) homes))) is)) ∙ before.2)
