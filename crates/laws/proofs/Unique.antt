-- No two different outcomes satisfy a promise, and what the promises of single calls give for sequences of calls on
-- runs. In order: the shape of a promise, runs and their views, setups and calls, made runs, sequences. Assumes
-- nothing.
use Prim.Native.Nat.{ℕ, zero, suc, ◌-◌, ◌<◌}
use native.Mathlib.Omega.{arith}
use mathlib.Core.Path.{◌≡◌, refl, sym, ap, ap₂, ◌∙◌, subst}
use mathlib.Core.Logic.{◌↔◌}
use mathlib.Core.List.{List, ◌∷◌, ◌++◌}
use lib.Dec.{eqb}
use Rattle.std.specs.Prelude.{Result, Ok, Err}
use Rattle.std.specs.Result.{result_unwrap_or}
use lib.ListN.{take, length, replicate, length-take, take-append-drop}
use borrow.Author.Tests.{eqb-true, eq-eqb}
use Rattle.lists.specs.Lists.{zeros}
use Rattle.lists.proofs.Testing.{tested, cond-true}
use Rattle.rule.specs.Refusal.{number_by}
use Rattle.rule.specs.Setups.{slice_fits_lem, bytes_fit_lem, setup_refusal_lem, plain, or_plain}
use Rattle.rule.specs.State.{State, fresh}
use Rattle.rule.specs.Calls.{Call, refusals, calls, Made}
use Rattle.rule.specs.View.{view, Tidy, MadeRun, Shows, Started, Promised, Determined}
use Rattle.rule.specs.declared.Setup.{Setup}
use Rattle.rule.specs.declared.Run.{Run}
use Rattle.laws.specs.Backlog.{accepted, Accounted}
use Rattle.laws.specs.Reasons.{Judged, setup_reasons}
use Rattle.laws.specs.Played.{Played, none, then, Judges}
use Rattle.laws.proofs.Accepted.{refused_stays, accepted_acts}
use Rattle.laws.proofs.Reasons.{setup_judged, refusal_judged}
use Rattle.laws.proofs.Made.{made_fresh, made_call}
use Rattle.laws.proofs.Backlog.{demand3}

-- ---- the shape of a promise

-- what is told of the outcome is, and g finds the outcome again
pub by_inverse : {A B : Type 0} (f : A → B) (g : B → A) → ((x : A) → g (f x) ≡ x) → (b : B)
    → Determined (λ (x : A). f x ≡ b)
by_inverse f g h b x y p q = sym (h x) ∙ ap g (p ∙ sym q) ∙ h y

-- An answer that is a value or a refusal is fixed by its number and by the value, where each refusal has a number of its
-- own and none has 0.
module _ {A E : Type 0} (number : E → ℕ) (back : ℕ → E) (again : (e : E) → back (number e) ≡ e)
    (some : (e : E) → 0 < number e) where
  answer_by : ℕ → A → Result A E
  answer_by zero x = Ok x
  answer_by (suc n) x = Err (back (suc n))

  refused_by : (n : ℕ) (x : A) → 0 < n → answer_by n x ≡ Err (back n)
  unfolding answer_by
  refused_by zero x h = absurd (omega arith)
  refused_by (suc n) x h = refl

  answer_again : (d : A) (r : Result A E) → answer_by (number_by number r) (result_unwrap_or r d) ≡ r
  unfolding answer_by
  answer_again d (Ok x) = refl
  answer_again d (Err e) = refused_by (number e) d (some e) ∙ ap (λ (f : E). Err f) (again e)

  pub answer_one : (d : A) (x y : Result A E) → number_by number x ≡ number_by number y
      → result_unwrap_or x d ≡ result_unwrap_or y d → x ≡ y
  answer_one d x y n v =
      sym (answer_again d x) ∙ (λ i. answer_by (n i) (v i)) ∙ answer_again d y

-- ---- runs and their views

queued_from : (r : Run) → Tidy r → length (take r.queued r.queue) ≡ r.queued
queued_from r h = omega (arith, length-take r.queued r.queue, h.fits, h.whole)

queue_from : (r : Run) → Tidy r → r.queue ≡ take r.queued r.queue ++ replicate (32 - r.queued) 0
queue_from r h =
    sym (take-append-drop r.queued r.queue)
    ∙ ap (λ (l : List ℕ). take r.queued r.queue ++ l) h.clear

-- a tidy run is fixed by its view
pub view_one : (x y : Run) → Tidy x → Tidy y → view x ≡ view y → x ≡ y
view_one x y h g p =
    let front : take x.queued x.queue ≡ take y.queued y.queue = ap (λ (s : State). s.queue) p in
    let queued : x.queued ≡ y.queued = sym (queued_from x h) ∙ ap length front ∙ queued_from y g in
    let queue : x.queue ≡ y.queue =
    queue_from x h ∙ ap₂ (λ (l : List ℕ) (n : ℕ). l ++ replicate (32 - n) 0) front queued ∙ sym (queue_from y g) in
    λ i. record {
      setup = (p i).setup;
      clock = (p i).clock;
      idle = (p i).idle;
      used = (p i).used;
      queued = queued i;
      queue = queue i;
      owed = (p i).owed;
      given = (p i).given;
      done = (p i).done;
    }

pub shows_determined : (s : State) → Determined (λ (r : Run). Shows r s)
shows_determined s x y p q = view_one x y p.tidy q.tidy (p.shown ∙ sym q.shown)

-- ---- setups and calls

pub started_determined : (p : Setup) → Determined (λ (o : ℕ × Run). Started p o.0 o.1)
started_determined p x y a b =
    λ i. ((a.answer ∙ sym b.answer) i, shows_determined _ x.1 y.1 a.run b.run i)

pub promised_determined : (s : Run) (c : Call) → Determined (λ (o : ℕ × Run). Promised s c o.0 o.1)
promised_determined s c x y a b =
    λ i. ((a.answer ∙ sym b.answer) i, shows_determined _ x.1 y.1 a.run b.run i)

-- a setup's number is that of the first listed reason that holds
pub started_listed : (p : Setup) (n : ℕ) (r : Run) → Started p n r → (m : ℕ) → (n ≡ m) ↔ Judged (setup_reasons p) m
started_listed p n r h m = (
  λ e. (setup_judged p m).0 (sym h.answer ∙ e),
  λ j. h.answer ∙ (setup_judged p m).1 j,
)

-- a refused call leaves the run itself, and not only its view
pub promised_refused : (s : Run) (c : Call) (n : ℕ) (r : Run) → Tidy s → Promised s c n r → (n ≡ 0 → ⊥) → r ≡ s
promised_refused s c n r t p h =
    view_one r s p.run.tidy t (p.run.shown ∙ refused_stays (view s) c (λ e. h (p.answer ∙ e)))

pub demand1 : (s : Run) (c : Call) (n : ℕ) (r : Run) → Tidy s → Promised s c n r → Judges s c n r
demand1 s c n r t p =
    record {
      listed = λ m. (
        λ e. (refusal_judged (view s) c m).0 (sym p.answer ∙ e),
        λ j. p.answer ∙ (refusal_judged (view s) c m).1 j,
      );
      kept = promised_refused s c n r t p;
      acted = λ e. p.run.shown ∙ accepted_acts (view s) c (sym p.answer ∙ e);
    }

-- ---- made runs

-- the setup of the run that a refused setup gives is accepted
pub plain_taken : setup_refusal_lem plain ≡ 0
unfolding zeros slice_fits_lem bytes_fit_lem setup_refusal_lem
plain_taken = refl

given_taken : (p : Setup) → setup_refusal_lem (or_plain p) ≡ 0
given_taken p =
    tested (eqb (setup_refusal_lem p) 0)
    (λ e. rw e (eqb-true (setup_refusal_lem p) 0 e))
    (λ e. rw e plain_taken)

pub made_started : (p : Setup) (n : ℕ) (r : Run) → Started p n r → MadeRun r
made_started p n r h =
    record {
      tidy = h.run.tidy;
      made = subst Made (sym h.run.shown) (made_fresh (or_plain p) (given_taken p));
    }

pub made_promised : (s : Run) (c : Call) (n : ℕ) (r : Run) → MadeRun s → Promised s c n r → MadeRun r
made_promised s c n r m p =
    record { tidy = p.run.tidy; made = subst Made (sym p.run.shown) (made_call (view s) c m.made) }

-- ---- sequences, from the promise of each call

pub played : {s r : Run} {cs : List Call} {ns : List ℕ} → Played s cs ns r
    → (view r ≡ calls (view s) cs) × (ns ≡ refusals (view s) cs)
unfolding calls refusals
played none = (refl, refl)
played (then {cs = cs} p w) =
    let h = played w in (
      h.0 ∙ ap (λ (x : State). calls x cs) p.run.shown,
      ap₂ (λ (m : ℕ) (l : List ℕ). m ∷ l) p.answer (h.1 ∙ ap (λ (x : State). refusals x cs) p.run.shown),
    )

pub made_played : {s r : Run} {cs : List Call} {ns : List ℕ} → MadeRun s → Played s cs ns r → MadeRun r
made_played m none = m
made_played m (then {s = s} {q = q} {c = c} {n = n} p w) = made_played (made_promised s c n q m p) w

-- a setup that is accepted gives the fresh run
pub started_fresh : (p : Setup) (s : Run) → Started p 0 s → (setup_refusal_lem p ≡ 0) × (view s ≡ fresh p)
started_fresh p s h =
    let e : setup_refusal_lem p ≡ 0 = sym h.answer in
    (e, h.run.shown ∙ ap fresh (cond-true p plain (eq-eqb (setup_refusal_lem p) 0 e)))

-- Demand 2: after a setup and any calls, the refusals are the rule's, and so is the state, of which every reading is
-- a function.
pub demand2 : {s r : Run} {cs : List Call} {ns : List ℕ} (p : Setup) → Started p 0 s → Played s cs ns r
    → (view r ≡ calls (fresh p) cs) × (ns ≡ refusals (fresh p) cs)
demand2 {s} {r} {cs} {ns} p h w =
    subst (λ (x : State). (view r ≡ calls x cs) × (ns ≡ refusals x cs)) (started_fresh p s h).1 (played w)

-- and the run is one that a setup and calls make
pub made_by : {s r : Run} {cs : List Call} {ns : List ℕ} (p : Setup) (n : ℕ) → Started p n s → Played s cs ns r
    → MadeRun r
made_by {s} p n h w = made_played (made_started p n s h) w

-- Demand 3 for runs: the state's theorem, by the view.
pub demand3_run : {s r : Run} {cs : List Call} {ns : List ℕ} (p : Setup) → Started p 0 s → Played s cs ns r
    → Accounted (accepted (fresh p) cs) (view r)
demand3_run {s} {cs = cs} p h w =
    subst (Accounted (accepted (fresh p) cs)) (sym (demand2 p h w).0) (demand3 p (started_fresh p s h).0 cs)
