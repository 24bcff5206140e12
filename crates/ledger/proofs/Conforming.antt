-- Every history that the scheduler gives conforms to the ledger. Assumes nothing.
use Rattle.std.proofs.Common.{◌≡◌, ℕ, zero, suc, ◌*◌, ◌/◌, ◌<◌, ◌≤◌, true, false, not, ◌&&◌, eqb, List, [], ◌∷◌, ◌++◌, length, Some, None, Option, sym, refl, ap, ◌∙◌, subst, inl, inr, mul-le-mul_left, arith}
use Rattle.std.proofs.lemmas.List.{length-append}
use Rattle.std.proofs.lemmas.Bool.{cases_lt, cases_order, eqb-true, eqb-false, leb-false, ltb-false, not-false, and_parts}
use Rattle.packing.specs.Fitting.{Rule as Fitting, Lawful as LawfulFitting}
use Rattle.choosing.specs.Choosing.{Rule as Choosing, Lawful as LawfulChoosing}
use Rattle.levels.specs.declared.item.Item.{Item}
use Rattle.levels.specs.declared.server.Server.{Server}
use Rattle.levels.specs.Items.{duals}
use Rattle.levels.specs.Ticking.{Rules, next_level, always, past, picks, picked}
use Rattle.levels.specs.Ticking.{named as named_in}
use Rattle.levels.specs.Running.{State, task, ready}
use Rattle.levels.specs.Reaching.{Announces, Goes}
use Rattle.levels.specs.Sums.{passing}
use Rattle.ledger.specs.Openings.{Opening, opening_of, Granted, idle_rates, rates}
use Rattle.ledger.specs.Calls.{Call, announce, tick, ask, Answer, done, Entry, History, with_call}
use Rattle.ledger.specs.Answering.{Figures, over, frame, awaited, announce_refusals, tick_refusals, refusal, Grants, Unless, Answers}
use Rattle.ledger.specs.Ledger.{Ledger, figures, FullTick, expected, posted, fresh, Conforms}
use Rattle.ledger.specs.Scheduler.{Setting, setting, Run, run_figures, running, Names, begun, ticked, granted, unless, after, opened, Gives, run_after, Reached, grant, refused_or, history}
use Rattle.ledger.specs.Theorems.{RunsConform, EveryHistoryConforms, EveryCallConforms, SameAnswer, EveryCallHasOneAnswer, EveryListOfCallsConforms}
use Rattle.ledger.proofs.Tables.{none_holds, refused_same, asked_same}
use Rattle.ledger.proofs.Tasks.{least_none, passing_different, passing_member}
use Rattle.ledger.proofs.Agreeing.{Agrees, same_figures, in_window, kept}
use Rattle.ledger.proofs.Announcing.{task_other, agrees_begun}
use Rattle.ledger.proofs.Ticking.{spend_keeps, task_next, full_tick, agrees_ticked}
use Rattle.ledger.proofs.Opened.{a_unit, few_reductions, every_allowed_load_opens, agrees_opened}

-- Every idle task has its deadline at the end of the run.
abbrev IdleDue : Opening → Run → Type 0
IdleDue o r = (i : ℕ) → length o.sheet ≤ i → i < length (rates o) → (task r.state i).deadline ≡ o.frames

-- a deadline that is now is this frame
this_frame : (u t d : ℕ) → 1 ≤ u → t ≡ u * d → t / u ≡ d
this_frame u t d h e = elim (cases_order (t / u) d) [
  | inl s ↦ s
  | inr (inl s) ↦ absurd (omega (arith, mul-le-mul_left {m = suc (t / u)} {n = d} u s))
  | inr (inr s) ↦ absurd (omega (arith, mul-le-mul_left {m = suc d} {n = t / u} u s))
]

-- ---- one call

module _ (o : Opening) (g : Granted o) (r : Run) (l : Ledger) (a : Agrees o r l) (idle : IdleDue o r) where
  abbrev s : Setting
  s = setting o

  abbrev n : Figures
  n = run_figures s r

  abbrev st : State
  st = r.state

  -- what a granted announcement rests on
  may_announce : (i d : ℕ) → refusal n (announce i d) ≡ None → Announces s.machine st i d × (frame n ≡ (task st i).deadline) × (i < length o.sheet)
  may_announce i d e =
      let (lasts, (known, (waits, (later, (within, none))))) = none_holds (announce_refusals n i d) e in
      let on_sheet : i < length o.sheet = leb-false (length o.sheet) i known in
      let due : st.tick ≡ o.unit * (task st i).deadline =
      eqb-true st.tick (o.unit * (task st i).deadline) (and_parts (not (over n)) (eqb st.tick (o.unit * (task st i).deadline)) (not-false (awaited n i) waits)).1 in
      let now : frame n ≡ (task st i).deadline = this_frame o.unit st.tick (task st i).deadline (a_unit o g) due in (
        record {
          one = omega (arith, a.size, length-append o.sheet (idle_rates o));
          due = due;
          later = omega (arith, leb-false d (frame n) later, now);
          within = ltb-false o.frames d within;
        },
        now,
        on_sheet,
      )

  -- a granted tick finds every task announced
  may_tick : (width : ℕ) → refusal n (tick width) ≡ None → Goes s.machine st
  may_tick width e =
      let (lasts, (wide, (none, more))) = none_holds (tick_refusals n width) e in
      record {
        lasts = leb-false (o.unit * o.frames) st.tick lasts;
        announced = λ i h. elim (cases_lt i (length o.sheet)) [
          | inl on_sheet ↦ later i h (not_now i lasts (least_none (length o.sheet) (awaited n) (ltb-false _ _ none) i on_sheet))
          | inr rest ↦ omega (arith, leb-false (o.unit * o.frames) st.tick lasts, ap (λ d. o.unit * d) (idle i rest (omega (arith, a.size))))
        ];
      }
    where
      not_now : (i : ℕ) → over n ≡ false → awaited n i ≡ false → eqb st.tick (o.unit * (task st i).deadline) ≡ false
      not_now i f w = sym (ap (λ b. not b && eqb st.tick (o.unit * (task st i).deadline)) f) ∙ w

      later : (i : ℕ) → i < length st.tasks → eqb st.tick (o.unit * (task st i).deadline) ≡ false → st.tick < o.unit * (task st i).deadline
      later i h f = let apart : st.tick ≡ o.unit * (task st i).deadline → ⊥ = eqb-false _ _ f in omega (arith, in_window o g.chooses r l a i h)

  same_n : figures o l ≡ n
  same_n = same_figures o r l a

  -- What a call comes to: the ledger expects the answer, and they still agree.
  record Next (call : Call) (answer : Answer) : Type 0 where
    answers : expected o l call answer
    agrees : Agrees o (after s r call) (posted o l call answer)
    idle_due : IdleDue o (after s r call)

  -- The same of a call whose refusal is known.
  abbrev Settled : Option Answer → Call → Answer → Type 0
  Settled x call answer =
      Unless x answer (Grants n (FullTick o l) call answer) × Agrees o (unless x r (granted s r call)) (posted o l call answer) × IdleDue o (unless x r (granted s r call))

  grants : (call : Call) (answer : Answer) → refusal n call ≡ None → Grants n (Names s r) call answer → Settled None call answer
  grants (announce i d) answer e is =
      let (w, now, on_sheet) = may_announce i d e in
      let next : Agrees o (begun i d r) (posted o l (announce i d) done) = agrees_begun o g.chooses r l a i d (frame (figures o l)) w (ap frame same_n ∙ now) in (
        is,
        subst (λ x. Agrees o (begun i d r) (posted o l (announce i d) x)) (sym is) next,
        λ k rest h. ap (λ c. c.deadline) (task_other st i d k (λ e. omega arith)) ∙ idle k rest h,
      )
  grants (tick width) answer e (tasks, is, names) =
      let w : Goes s.machine st = may_tick width e in (
        (tasks, is, full_tick o g.chooses r l a w tasks names),
        subst (λ x. Agrees o (ticked s r) (posted o l (tick width) x)) (sym is) (agrees_ticked o g.chooses r l a w tasks names),
        λ k rest h. ap (λ c. c.deadline) (task_next o g.chooses r l a w tasks names k) ∙ (spend_keeps (running s r k) (task st k)).1 ∙ idle k rest h,
      )
  grants (ask q) answer e is =
      (is, subst (λ x. Agrees o r (posted o l (ask q) x)) (sym is) (subst (Agrees o r) (sym (asked_same o n l q)) a), idle)

  settled : (call : Call) (answer : Answer) (x : Option Answer) → refusal n call ≡ x → Unless x answer (Grants n (Names s r) call answer) → Settled x call answer
  settled call answer None e is = grants call answer e is
  settled call answer (Some x) e is = (is, subst (Agrees o r) (sym (ap (posted o l call) is ∙ refused_same o n l call x e)) a, idle)

  next : (call : Call) (answer : Answer) → Answers n (Names s r) call answer → Next call answer
  next call answer is =
      let t : Settled (refusal n call) call answer = settled call answer (refusal n call) refl is in
      record { answers = subst (λ f. Answers f (FullTick o l) call answer) (sym same_n) t.0; agrees = t.1; idle_due = t.2 }

-- ---- whole histories

conforms : (o : Opening) (g : Granted o) (r : Run) (l : Ledger) → Agrees o r l → IdleDue o r → (entries : History) → Gives (setting o) r entries → Conforms o l entries
conforms o g r l a idle [] is = kept o g.chooses r l a (few_reductions o g)
conforms o g r l a idle (e ∷ entries) is =
    let t : Next o g r l a idle e.call e.answer = next o g r l a idle e.call e.answer is.0 in (
      kept o g.chooses r l a (few_reductions o g),
      t.answers,
      conforms o g (after (setting o) r e.call) (posted o l e.call e.answer) t.agrees t.idle_due entries is.1,
    )

pub every_history_conforms : EveryHistoryConforms
every_history_conforms o g entries is =
    let (a, b) = agrees_opened o g in
    conforms o g (opened o) (fresh o) a (λ i rest h. (b.idles i rest h).0) entries is

pub runs_conform : (fit : Fitting) → LawfulFitting fit → (choose : Choosing) → LawfulChoosing choose → RunsConform fit choose
runs_conform fit fits choose chooses cores unit frames sheet ok =
    let (plan, granted, only) = every_allowed_load_opens cores unit frames sheet ok fit fits choose chooses in
    (plan, granted, every_history_conforms (opening_of cores unit frames sheet fit choose plan) granted)

-- ---- one call more

gives_more : (s : Setting) (r : Run) (entries : History) (e : Entry) → Gives s r entries
    → Answers (run_figures s (run_after s r entries)) (Names s (run_after s r entries)) e.call e.answer → Gives s r (entries ++ e ∷ [])
gives_more s r [] e is h = (h, tt)
gives_more s r (x ∷ entries) e is h = (is.0, gives_more s (after s r x.call) entries e is.1 h)

run_more : (s : Setting) (r : Run) (entries : History) (e : Entry) → run_after s r (entries ++ e ∷ []) ≡ after s (run_after s r entries) e.call
run_more s r [] e = refl
run_more s r (x ∷ entries) e = run_more s (after s r x.call) entries e

-- the history by which a run was reached conforms
pub reached_conforms : (o : Opening) → Granted o → (entries : History) (s : Setting) (r : Run) → Reached o entries s r → Conforms o (fresh o) entries
reached_conforms o g entries s r reached = every_history_conforms o g entries (subst (λ q. Gives q (opened o) entries) (sym reached.set) reached.given)

pub every_call_conforms : EveryCallConforms
every_call_conforms s r call answer next (is, then) o g entries reached =
    let e : Entry = record { call = call; answer = answer } in
    let more : Reached o (with_call entries call answer) s next = record {
      set = reached.set;
      given = gives_more s (opened o) entries e reached.given (subst (λ q. Answers (run_figures s q) (Names s q) call answer) (sym reached.ends) is);
      ends = run_more s (opened o) entries e ∙ ap (λ q. after s q call) reached.ends ∙ sym then;
    } in
    (reached_conforms o g (with_call entries call answer) s next more, more)

-- ---- a tick that is not refused

-- the ledger agrees with the run at the end of a history
agrees_after : (o : Opening) (g : Granted o) (r : Run) (l : Ledger) → Agrees o r l → IdleDue o r → (entries : History) → Gives (setting o) r entries
    → (l' : Ledger) × Agrees o (run_after (setting o) r entries) l' × IdleDue o (run_after (setting o) r entries)
agrees_after o g r l a idle [] is = (l, a, idle)
agrees_after o g r l a idle (e ∷ entries) is =
    let t : Next o g r l a idle e.call e.answer = next o g r l a idle e.call e.answer is.0 in
    agrees_after o g (after (setting o) r e.call) (posted o l e.call e.answer) t.agrees t.idle_due entries is.1

-- A tick of a run that was reached: where it is not refused, as many tasks run as there are cores.
abbrev Fills : Setting → Run → Type 0
Fills s r = (width : ℕ) → refusal (run_figures s r) (tick width) ≡ None → (tasks : List ℕ) → Names s r tasks → length tasks ≡ s.machine.cores

pub names_fill : (o : Opening) → Granted o → (entries : History) (s : Setting) (r : Run) → Reached o entries s r → Fills s r
names_fill o g entries s r reached =
    let given : Gives (setting o) (opened o) entries = subst (λ q. Gives q (opened o) entries) (sym reached.set) reached.given in
    let (a, b) = agrees_opened o g in
    let (l, agrees, idle) = agrees_after o g (opened o) (fresh o) a (λ i rest h. (b.idles i rest h).0) entries given in
    let here : Fills (setting o) (run_after (setting o) (opened o) entries) =
    λ width none tasks names. (full_tick o g.chooses (run_after (setting o) (opened o) entries) l agrees
    (may_tick o g (run_after (setting o) (opened o) entries) l agrees idle width none) tasks names).as_cores in
    subst (Fills s) reached.ends (subst (λ q. Fills q (run_after q (opened o) entries)) reached.set here)

-- ---- the scheduler as a function

picked_below : (pick : ℕ → Option ℕ) (xs : List Item) (i : ℕ) → picked pick xs i ≡ true → i < length xs
picked_below pick [] i e = let z : ◌≡◌ {A = ℕ} 0 1 = cc in absurd (omega arith)
picked_below pick (x ∷ xs) zero e = omega arith
picked_below pick (x ∷ xs) (suc i) e = omega (arith, picked_below (past pick x.home) xs i e)

named_below : (rules : Rules) (unit : ℕ) (items : List Item) (levels : List (List Server)) (i : ℕ) → named_in rules unit items levels i ≡ true → i < length items
named_below rules unit items [] i e = let z : ◌≡◌ {A = ℕ} 0 1 = cc in absurd (omega arith)
named_below rules unit items (ss ∷ above) i e = picked_below (picks (rules 0) items ss (named_in (next_level rules) unit (duals unit ss) above)) items i e

grant_is : (s : Setting) (r : Run) (call : Call) → Grants (run_figures s r) (Names s r) call (grant s r call)
grant_is s r (announce i d) = refl
grant_is s r (tick width) =
    let below : (k : ℕ) → running s r k ≡ true → k < length r.state.tasks = named_below (always s.choose) s.machine.unit r.state.tasks (ready s.machine r.state) in (
      passing 0 (length r.state.tasks) (running s r),
      refl,
      (
        passing_different 0 (length r.state.tasks) (running s r),
        λ i. passing_member 0 (length r.state.tasks) (running s r) (λ k e. omega (arith, below k e)) i (omega arith),
      ),
    )
grant_is s r (ask q) = refl

same_grant : (s : Setting) (r : Run) (call : Call) (answer : Answer) → Grants (run_figures s r) (Names s r) call answer → SameAnswer answer (grant s r call)
same_grant s r (announce i d) answer is = inl is
same_grant s r (tick width) answer (tasks, is, names) =
    let (others, same, theirs) = grant_is s r (tick width) in
    inr (tasks, others, is, same, λ i. names.1 i ∙ sym (theirs.1 i))
same_grant s r (ask q) answer is = inl is

pub every_call_has_one_answer : EveryCallHasOneAnswer
every_call_has_one_answer s r call = (one (refusal (run_figures s r) call), λ answer is. same (refusal (run_figures s r) call) answer is)
  where
    one : (x : Option Answer) → Unless x (refused_or x (grant s r call)) (Grants (run_figures s r) (Names s r) call (refused_or x (grant s r call)))
    one None = grant_is s r call
    one (Some x) = refl

    same : (x : Option Answer) (answer : Answer) → Unless x answer (Grants (run_figures s r) (Names s r) call answer) → SameAnswer answer (refused_or x (grant s r call))
    same None answer is = same_grant s r call answer is
    same (Some x) answer is = inl is

history_given : (s : Setting) (r : Run) (calls : List Call) → Gives s r (history s r calls)
history_given s r [] = tt
history_given s r (call ∷ calls) = ((every_call_has_one_answer s r call).0, history_given s (after s r call) calls)

pub every_list_of_calls_conforms : EveryListOfCallsConforms
every_list_of_calls_conforms o g calls = every_history_conforms o g (history (setting o) (opened o) calls) (history_given (setting o) (opened o) calls)
