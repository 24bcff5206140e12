use Rattle.std.proofs.Common.{◌≡◌, ℕ, true, false, cond, Bool, List, Some, None, Ok, Err, Result, Bor, option_map, refl, sym, ap, ◌∙◌}
use Rattle.std.specs.Result.{MatchResult, result_ok}
use Rattle.std.specs.Str.{IsUtf8, is_utf8}
use Rattle.std.proofs.lemmas.Str.{IsUtf8-from_is_utf8, is_utf8-from_IsUtf8}
use Rattle.sheet_planner.specs.Names.{text_of}
use Rattle.sheet_planner.proofs.names.text.Goals as goal

no_text : (bs : List ℕ) (b : Bool) → (is_utf8 bs ≡ b) → (IsUtf8 bs → ⊥) → text_of bs ≡ None
no_text bs true is never = absurd (never (IsUtf8-from_is_utf8 bs is))
no_text bs false is never = ap (λ b. cond b (Some bs) None) is

told : {E : Type 0} (Q : E → Type 0) (bs : List ℕ) (r : Result (Bor (List ℕ)) E)
    → MatchResult r (λ s. (s.now ≡ bs) × IsUtf8 bs) (λ e. (IsUtf8 bs → ⊥) × Q e)
    → option_map (λ t. t.now) (result_ok r) ≡ text_of bs
told Q bs (Ok s) (same, text) = ap Some same ∙ sym (ap (λ b. cond b (Some bs) None) (is_utf8-from_IsUtf8 bs text))
told Q bs (Err e) (never, _) = sym (no_text bs (is_utf8 bs) refl never)

pub returns : goal.returns
returns c = ap (option_map (λ t. t.now)) c.ok.ensures.value ∙ told _ c.args.bytes.now c.from_utf8.result c.from_utf8.ensures.cases
