-- A list of calls, put one after the other. Assumes nothing.
use Rattle.std.proofs.Common.{◌≡◌, ℕ, zero, suc, ◌+◌, ◌<◌, min, List, [], ◌∷◌, ◌++◌, length, get_or, take, drop, set, sym, refl, ap, ◌∙◌, subst, add-one, arith, length-set}
use Rattle.std.proofs.lemmas.List.{append_assoc, append-nil}
use Rattle.packing.specs.Fitting.{Rule as Fitting}
use Rattle.choosing.specs.Choosing.{Rule}
use Rattle.ledger.specs.Calls.{Entry}
use Rattle.ledger.specs.Openings.{Opening, opening_of}
use Rattle.ledger.proofs.Conforming.{reached_conforms}
use Rattle.ledger.specs.Scheduler.{Reached}
use Rattle.run.specs.declared.call.Call.{Call}
use Rattle.run.specs.declared.state.State.{State}
use Rattle.run.specs.Replays.{Answer, answer_of, call_of, history_of, AllAnswered, Answered, GoesOnBy, Played}
use Rattle.run.specs.Runs.{run_of, setting_of, Lawfully, OpenedRun}

abbrev entry : Call → Answer → Entry
entry call answer = record { call = call_of call; answer = answer_of answer }

-- One call more.
history_more : (calls : List Call) (answers : List Answer) (i : ℕ) (a : Answer) (d : Call) → i < length calls → i < length answers
    → history_of (take (suc i) calls) (take (suc i) (set answers i a)) ≡ history_of (take i calls) (take i answers) ++ entry (get_or calls i d) a ∷ []
history_more [] answers i a d h l = absurd (omega arith)
history_more (x ∷ calls) [] i a d h l = absurd (omega arith)
history_more (x ∷ calls) (y ∷ answers) zero a d h l = refl
history_more (x ∷ calls) (y ∷ answers) (suc i) a d h l = ap (λ r. entry x y ∷ r) (history_more calls answers i a d (omega arith) (omega arith))

answered_more : (choose : Rule) (s : State) (calls : List Call) (answers : List Answer) (i : ℕ) (a : Answer) (d : Call) (s' s'' : State) → i < length calls → i < length answers
    → AllAnswered choose s (take i calls) (take i answers) s' → Answered choose s' (get_or calls i d) a s''
    → AllAnswered choose s (take (suc i) calls) (take (suc i) (set answers i a)) s''
answered_more choose s [] answers i a d s' s'' h l all put = absurd (omega arith)
answered_more choose s (x ∷ calls) [] i a d s' s'' h l all put = absurd (omega arith)
answered_more choose s (x ∷ calls) (y ∷ answers) zero a d s' s'' h l all put = (s'', subst (λ t. Answered choose t x a s'') all put, refl)
answered_more choose s (x ∷ calls) (y ∷ answers) (suc i) a d s' s'' h l all put =
    (all.0, all.1, answered_more choose all.0 calls answers i a d s' s'' (omega arith) (omega arith) all.2 put)

-- What is behind stays.
drop_set : (answers : List Answer) (i : ℕ) (a : Answer) → drop (suc i) (set answers i a) ≡ drop (suc i) answers
drop_set [] i a = refl
drop_set (y ∷ answers) zero a = refl
drop_set (y ∷ answers) (suc i) a = drop_set answers i a

drop_more : (xs ys : List Answer) (i : ℕ) → drop i xs ≡ drop i ys → drop (suc i) xs ≡ drop (suc i) ys
drop_more xs ys i e = drop_one xs i ∙ ap (drop 1) e ∙ sym (drop_one ys i)
  where
    drop_one : (xs : List Answer) (i : ℕ) → drop (suc i) xs ≡ drop 1 (drop i xs)
    drop_one [] zero = refl
    drop_one [] (suc i) = refl
    drop_one (x ∷ xs) zero = refl
    drop_one (x ∷ xs) (suc i) = drop_one xs i

-- The first i calls were put.
pub record PlayingOn (choose : Rule) (s : State) (calls : List Call) (old : List Answer) (choose' : Rule) (s' : State) (answers : List Answer) (i : ℕ) : Type 0 where
  pub same : choose' ≡ choose
  pub answered : AllAnswered choose s (take i calls) (take i answers) s'
  pub reaches : GoesOnBy choose s (history_of (take i calls) (take i answers)) choose' s'
  pub behind : drop i answers ≡ drop i old
  pub long : length answers ≡ length old

module _ (choose : Rule) (s : State) (calls : List Call) (old : List Answer) where
  pub playing_none : PlayingOn choose s calls old choose s old 0
  playing_none = record { same = refl; answered = refl; reaches = λ o g before r. subst (λ h. Reached o h (setting_of choose s) (run_of s)) (sym (append-nil before)) r; behind = refl; long = refl }

  pub playing_more : (choose' choose'' : Rule) (s' s'' : State) (answers : List Answer) (i : ℕ) (a : Answer) (d : Call) → i < length calls → i < length old
      → choose'' ≡ choose' → Answered choose' s' (get_or calls i d) a s'' → Lawfully choose' s' (call_of (get_or calls i d)) (answer_of a) s''
      → PlayingOn choose s calls old choose' s' answers i → PlayingOn choose s calls old choose'' s'' (set answers i a) (i + 1)
  playing_more choose' choose'' s' s'' answers i a d h l same is put so = subst (λ n. PlayingOn choose s calls old choose'' s'' (set answers i a) n) (sym (add-one i)) (record {
    same = same ∙ so.same;
    answered = answered_more choose s calls answers i a d s' s'' h (omega (arith, so.long)) so.answered (subst (λ x. Answered x s' (get_or calls i d) a s'') so.same is);
    reaches = λ o g before r.
        let was = so.reaches o g before r in
        let next = (put.law o g (before ++ history_of (take i calls) (take i answers)) was).1 in
        let joined = append_assoc before (history_of (take i calls) (take i answers)) (entry (get_or calls i d) a ∷ []) ∙ ap (λ x. before ++ x) (sym (history_more calls answers i a d h (omega (arith, so.long)))) in
        let set_to : setting_of choose' s' ≡ setting_of choose'' s'' = sym put.stays ∙ ap (λ x. setting_of x s'') (sym same) in
        subst (λ x. Reached o (before ++ history_of (take (suc i) calls) (take (suc i) (set answers i a))) x (run_of s'')) set_to
        (subst (λ x. Reached o x (setting_of choose' s') (run_of s'')) joined next);
    behind = drop_set answers i a ∙ drop_more answers old i so.behind;
    long = rw length-set so.long;
  })

-- A run was opened, and the first n calls were put to it.
pub played : (fit : Fitting) (choose opened_by starts : Rule) (cores unit frames : ℕ) (sheet : List ℕ) (calls : List Call) (old new : List Answer) (n : ℕ) (s : State)
    → opened_by ≡ choose → starts ≡ opened_by → OpenedRun fit opened_by cores unit frames sheet s → n ≡ min (length calls) (length old)
    → (ends : Rule) (s' : State) → AllAnswered starts s (take n calls) (take n new) s' → GoesOnBy starts s (history_of (take n calls) (take n new)) ends s' → drop n new ≡ drop n old
    → Played fit choose cores unit frames sheet calls old new n
played fit choose opened_by starts cores unit frames sheet calls old new n s same begins opened all ends s' answered goes behind =
    let run : OpenedRun fit choose cores unit frames sheet s = subst (λ x. OpenedRun fit x cores unit frames sheet s) same opened in
    let o : Opening = opening_of cores unit frames sheet fit choose run.plan.levels in
    let from : Reached o [] (setting_of starts s) (run_of s) = subst (λ x. Reached o [] (setting_of x s) (run_of s)) (sym (begins ∙ same)) run.fresh.reached in
    record {
      start = s;
      end = s';
      opened = run;
      all = all;
      answered = subst (λ x. AllAnswered x s (take n calls) (take n new) s') (begins ∙ same) answered;
      conforms = reached_conforms o run.granted (history_of (take n calls) (take n new)) (setting_of ends s') (run_of s') (goes o run.granted [] from);
      behind = behind;
    }
