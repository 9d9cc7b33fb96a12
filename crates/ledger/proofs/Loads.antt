-- Which load's key is held after a list of calls, and whether it is published, by the list alone. Assumes nothing.
use Prim.Native.Nat.{ℕ, zero, suc}
use mathlib.Core.Path.{◌≡◌, refl, sym, ap, ◌∙◌, subst}
use mathlib.Core.Logic.{◌⊎◌, inl, inr, ⊎_elim}
use mathlib.Core.Bool.{true≢false, not}
use mathlib.Core.List.{List, [], ◌∷◌, ◌++◌}
use mathlib.Core.Option.{some}
use native.Mathlib.Omega.{arith}
use Rattle.field.proofs.Numbers.{first-clear}
use Rattle.key.specs.Keys.{Key}
use Rattle.ledger.specs.Slot.{loaded, published, Slot, fresh, held_by}
use Rattle.ledger.specs.Loading.{Loading, loaded_key}
use Rattle.ledger.specs.Publishing.{Publishing}
use Rattle.ledger.specs.Questions.{Question}
use Rattle.ledger.specs.Calls.{Call, load, publish, ask, drop_key, conditions_of, step, run}
use Rattle.ledger.specs.Systems.{System}
use Rattle.ledger.specs.Demands.{at, key_held}
use Rattle.ledger.specs.OwnWords.{NoDrop, SomePublish, Loaded, HoldsTheLoad, HoldsTheMark}
use Rattle.ledger.proofs.StepLaws.{step-number, load_station, publish_station, drop_station}
use Rattle.ledger.proofs.LedgerLaws.{run-append}
use Rattle.ledger.proofs.Demand2.{at_held}
use Rattle.ledger.proofs.Demand3.{differ}
use Rattle.ledger.proofs.Found.{Publishes, publish_found}
use Rattle.ledger.proofs.Simulation.{Simulates, same_number, same_station}

-- with a key held load is refused
load_refused : (s : Slot) (k : Key) (f : Loading) → key_held s ≡ some k → (step s (load f)).number ≡ 0 → ⊥
unfolding held_by conditions_of at
load_refused s k f h =
    at_held (λ (x : Slot). (step x (load f)).number ≡ 0 → ⊥) s k h
    (λ state e z. true≢false (ap not (sym e) ∙ (first-clear _ 21 _ (sym (step-number (at state k) (load f)) ∙ z)).0))

-- accepted or refused
by_number : {A : Type 0} (n : ℕ) → (n ≡ 0 → A) → ((m : ℕ) → n ≡ suc m → A) → A
by_number zero f g = f refl
by_number (suc m) f g = g m refl

refused_not_0 : {n m : ℕ} → n ≡ suc m → n ≡ 0 → ⊥
refused_not_0 e z = omega arith

-- a fresh slot holds none
none_held : (k : Key) {A : Type 0} → key_held fresh ≡ some k → A
unfolding key_held fresh
none_held k h = differ (cc)

module _ (sys : System) (sim : Simulates sys) where
  -- what a call leaves to be seen
  module _ (s : sys.Stations) where
    refused_view : (c : Call) (n : ℕ) → (sys.call s c).number ≡ suc n → sys.view (sys.call s c).station ≡ sys.view s
    refused_view c n e = ap sys.view (sim.stays s c n e)

    seen_number : (c : Call) {n : ℕ} → (sys.call s c).number ≡ n → (step (sys.view s) c).number ≡ n
    seen_number c e = sym (same_number sys sim s c) ∙ e

    load_view : (f : Loading) → (sys.call s (load f)).number ≡ 0 → sys.view (sys.call s (load f)).station ≡ at loaded (loaded_key f)
    unfolding at
    load_view f e = same_station sys sim s (load f) ∙ load_station (sys.view s) f (seen_number (load f) e)

    publish_view : (p : Publishing) → (sys.call s (publish p)).number ≡ 0
        → sys.view (sys.call s (publish p)).station ≡ at published (sys.view s).key
    unfolding at
    publish_view p e = same_station sys sim s (publish p) ∙ publish_station (sys.view s) p (seen_number (publish p) e)

    drop-view : (sys.call s drop_key).number ≡ 0 → sys.view (sys.call s drop_key).station ≡ fresh
    drop-view e = same_station sys sim s drop_key ∙ drop_station (sys.view s) (seen_number drop_key e)

    question_view : (q : Question) → sys.view (sys.call s (ask q)).station ≡ sys.view s
    question_view q = ap sys.view (sim.leaves s q)

    -- publish leaves the key
    publish_held : (p : Publishing) → key_held (sys.view (sys.call s (publish p)).station) ≡ key_held (sys.view s)
    unfolding key_held at
    publish_held p =
        by_number (sys.call s (publish p)).number
        (λ e.
        let f : Publishes (sys.view s) = publish_found (sys.view s) p (seen_number (publish p) e) in
        ap key_held (publish_view p e) ∙ sym f.held)
        (λ n e. ap key_held (refused_view (publish p) n e))

  -- no drop is accepted in a list, in the list behind its first call, and with one call more before it
  none_in : (s : sys.Stations) → NoDrop sys s []
  none_in s [] b e z = differ (cc)
  none_in s (x ∷ a) b e z = differ (cc)

  drop_behind : (s : sys.Stations) (c : Call) (cs : List Call) → NoDrop sys s (c ∷ cs) → NoDrop sys (sys.call s c).station cs
  unfolding run
  drop_behind s c cs keeps a b e z = keeps (c ∷ a) b (ap (◌∷◌ c) e) z

  drop-first : (s : sys.Stations) (c : Call) (cs : List Call) → (c ≡ drop_key → (sys.call s drop_key).number ≡ 0 → ⊥)
      → NoDrop sys (sys.call s c).station cs → NoDrop sys s (c ∷ cs)
  unfolding run
  drop-first s c cs f keeps [] b e z = f (cc) z
  drop-first s c cs f keeps (x ∷ a) b e z =
      let q : x ≡ c = cc in
      keeps a b (cc) (subst (λ (y : Call). (sys.call (run sys.call (sys.call s y).station a) drop_key).number ≡ 0) q z)

  -- a held key stays
  held_next : (s : sys.Stations) (c : Call) (cs : List Call) (k : Key) → key_held (sys.view s) ≡ some k → NoDrop sys s (c ∷ cs)
      → key_held (sys.view (sys.call s c).station) ≡ some k
  unfolding run
  held_next s (load f) cs k h keeps =
      by_number (sys.call s (load f)).number
      (λ e. absurd (load_refused (sys.view s) k f h (seen_number s (load f) e)))
      (λ n e. ap key_held (refused_view s (load f) n e) ∙ h)
  held_next s (publish p) cs k h keeps = publish_held s p ∙ h
  held_next s (ask q) cs k h keeps = ap key_held (question_view s q) ∙ h
  held_next s drop_key cs k h keeps =
      by_number (sys.call s drop_key).number (λ e. absurd (keeps [] cs refl e)) (λ n e. ap key_held (refused_view s drop_key n e) ∙ h)

  held_after : (s : sys.Stations) (calls : List Call) (k : Key) → key_held (sys.view s) ≡ some k → NoDrop sys s calls
      → key_held (sys.view (run sys.call s calls)) ≡ some k
  unfolding run
  held_after s [] k h keeps = h
  held_after s (c ∷ cs) k h keeps = held_after (sys.call s c).station cs k (held_next s c cs k h keeps) (drop_behind s c cs keeps)

  -- a key that is held after a call was held before, or is the one loaded
  held_before : (s : sys.Stations) (c : Call) (cs : List Call) (k : Key) → key_held (sys.view (sys.call s c).station) ≡ some k
      → NoDrop sys (sys.call s c).station cs
      → ((key_held (sys.view s) ≡ some k) × NoDrop sys s (c ∷ cs)) ⊎ Loaded sys s (c ∷ cs) k
  unfolding run key_held at
  held_before s (load f) cs k h keeps =
      by_number (sys.call s (load f)).number
      (λ e.
      let q : some (loaded_key f) ≡ some k = sym (ap key_held (load_view s f e)) ∙ h in
      inr (record { before = []; form = f; after = cs; split = refl; accepted = e; key = cc; kept = keeps }))
      (λ n e. inl (sym (ap key_held (refused_view s (load f) n e)) ∙ h, drop-first s (load f) cs (λ q z. differ (cc)) keeps))
  held_before s (publish p) cs k h keeps =
      inl (sym (publish_held s p) ∙ h, drop-first s (publish p) cs (λ q z. differ (cc)) keeps)
  held_before s (ask q) cs k h keeps =
      inl (sym (ap key_held (question_view s q)) ∙ h, drop-first s (ask q) cs (λ e z. differ (cc)) keeps)
  held_before s drop_key cs k h keeps =
      by_number (sys.call s drop_key).number
      (λ e. none_held k (sym (ap key_held (drop-view s e)) ∙ h))
      (λ n e. inl (sym (ap key_held (refused_view s drop_key n e)) ∙ h, drop-first s drop_key cs (λ q z. refused_not_0 e z) keeps))

  held_from : (s : sys.Stations) (calls : List Call) (k : Key) → key_held (sys.view (run sys.call s calls)) ≡ some k
      → ((key_held (sys.view s) ≡ some k) × NoDrop sys s calls) ⊎ Loaded sys s calls k
  unfolding run
  held_from s [] k h = inl (h, none_in s)
  held_from s (c ∷ cs) k h =
      ⊎_elim (λ p. held_before s c cs k p.0 p.1)
      (λ l. inr (record { before = c ∷ l.before; form = l.form; after = l.after; split = ap (◌∷◌ c) l.split; accepted = l.accepted; key = l.key; kept = l.kept }))
      (held_from (sys.call s c).station cs k h)

  -- the load's station, from which the later calls run
  module _ (calls : List Call) (k : Key) (l : Loaded sys sys.fresh calls k) where
    start : sys.Stations
    start = (sys.call (run sys.call sys.fresh l.before) (load l.form)).station

    start-view : sys.view start ≡ at loaded k
    unfolding start
    start-view = load_view (run sys.call sys.fresh l.before) l.form l.accepted ∙ ap (at loaded) l.key

    start-run : run sys.call sys.fresh calls ≡ run sys.call start l.after
    unfolding start run
    start-run =
        ap (run sys.call sys.fresh) l.split ∙ run-append sys.call sys.fresh l.before (load l.form ∷ l.after)

    start_held : key_held (sys.view start) ≡ some k
    unfolding key_held at
    start_held = ap key_held start-view

  pub holds_the_load : HoldsTheLoad sys
  unfolding start
  holds_the_load calls k = (
    λ h. ⊎_elim (λ p. none_held k (sym (ap key_held sim.fresh) ∙ p.0)) (λ l. l) (held_from sys.fresh calls k h),
    λ l. ap (λ (t : sys.Stations). key_held (sys.view t)) (start-run calls k l) ∙ held_after (start calls k l) l.after k (start_held calls k l) l.kept,
  )

  -- a published station stays published
  marked_next : (s : sys.Stations) (c : Call) (cs : List Call) (k : Key) → sys.view s ≡ at published k → NoDrop sys s (c ∷ cs)
      → sys.view (sys.call s c).station ≡ at published k
  unfolding run key_held at
  marked_next s (load f) cs k v keeps =
      by_number (sys.call s (load f)).number
      (λ e. absurd (load_refused (sys.view s) k f (ap key_held v) (seen_number s (load f) e)))
      (λ n e. refused_view s (load f) n e ∙ v)
  marked_next s (publish p) cs k v keeps =
      by_number (sys.call s (publish p)).number
      (λ e. publish_view s p e ∙ ap (λ (x : Slot). at published x.key) v)
      (λ n e. refused_view s (publish p) n e ∙ v)
  marked_next s (ask q) cs k v keeps = question_view s q ∙ v
  marked_next s drop_key cs k v keeps =
      by_number (sys.call s drop_key).number (λ e. absurd (keeps [] cs refl e)) (λ n e. refused_view s drop_key n e ∙ v)

  marked_after : (s : sys.Stations) (calls : List Call) (k : Key) → sys.view s ≡ at published k → NoDrop sys s calls
      → sys.view (run sys.call s calls) ≡ at published k
  unfolding run
  marked_after s [] k v keeps = v
  marked_after s (c ∷ cs) k v keeps = marked_after (sys.call s c).station cs k (marked_next s c cs k v keeps) (drop_behind s c cs keeps)

  -- after an accepted publish it is published
  published_after_lem : (s : sys.Stations) (before : List Call) (p : Publishing) (after : List Call) (k : Key) → key_held (sys.view s) ≡ some k
      → NoDrop sys s (before ++ (publish p ∷ after)) → (sys.call (run sys.call s before) (publish p)).number ≡ 0
      → sys.view (run sys.call s (before ++ (publish p ∷ after))) ≡ at published k
  unfolding run at
  published_after_lem s [] p after k h keeps e =
      marked_after (sys.call s (publish p)).station after k
      (publish_view s p e ∙ at_held (λ (x : Slot). at published x.key ≡ at published k) (sys.view s) k h (λ state q. refl))
      (drop_behind s (publish p) after keeps)
  published_after_lem s (c ∷ cs) p after k h keeps e =
      let ds : List Call = cs ++ (publish p ∷ after) in
      published_after_lem (sys.call s c).station cs p after k (held_next s c ds k h keeps) (drop_behind s c ds keeps) e

  -- a station that is published after a call was so before, or the call is an accepted publish
  marked_before : (s : sys.Stations) (c : Call) (cs : List Call) (k : Key) → key_held (sys.view s) ≡ some k → NoDrop sys s (c ∷ cs)
      → sys.view (sys.call s c).station ≡ at published k → (sys.view s ≡ at published k) ⊎ SomePublish sys s (c ∷ cs)
  unfolding run
  marked_before s (load f) cs k h keeps v =
      by_number (sys.call s (load f)).number
      (λ e. absurd (load_refused (sys.view s) k f h (seen_number s (load f) e)))
      (λ n e. inl (sym (refused_view s (load f) n e) ∙ v))
  marked_before s (publish p) cs k h keeps v =
      by_number (sys.call s (publish p)).number
      (λ e. inr (record { before = []; form = p; after = cs; split = refl; accepted = e }))
      (λ n e. inl (sym (refused_view s (publish p) n e) ∙ v))
  marked_before s (ask q) cs k h keeps v = inl (sym (question_view s q) ∙ v)
  marked_before s drop_key cs k h keeps v =
      by_number (sys.call s drop_key).number (λ e. absurd (keeps [] cs refl e)) (λ n e. inl (sym (refused_view s drop_key n e) ∙ v))

  marked_from : (s : sys.Stations) (calls : List Call) (k : Key) → key_held (sys.view s) ≡ some k → NoDrop sys s calls
      → sys.view (run sys.call s calls) ≡ at published k → (sys.view s ≡ at published k) ⊎ SomePublish sys s calls
  unfolding run
  marked_from s [] k h keeps v = inl v
  marked_from s (c ∷ cs) k h keeps v =
      ⊎_elim (marked_before s c cs k h keeps)
      (λ p. inr (record { before = c ∷ p.before; form = p.form; after = p.after; split = ap (◌∷◌ c) p.split; accepted = p.accepted }))
      (marked_from (sys.call s c).station cs k (held_next s c cs k h keeps) (drop_behind s c cs keeps) v)

  -- loaded is not published
  not_marked : {A : Type 0} (k : Key) → at loaded k ≡ at published k → A
  unfolding at
  not_marked k e = let q : loaded ≡ published = ap (λ (s : Slot). s.state) e in differ (cc)

  pub holds_the_mark : HoldsTheMark sys
  unfolding start key_held at
  holds_the_mark calls k = (
    λ v.
        let l : Loaded sys sys.fresh calls k = (holds_the_load calls k).0 (ap key_held v) in (
          l,
          ⊎_elim (λ m. not_marked k (sym (start-view calls k l) ∙ m)) (λ p. p)
              (marked_from (start calls k l) l.after k (start_held calls k l) l.kept (sym (ap sys.view (start-run calls k l)) ∙ v)),
        ),
    λ p.
        let l : Loaded sys sys.fresh calls k = p.0 in
        let q : SomePublish sys (start calls k l) l.after = p.1 in
        ap sys.view (start-run calls k l)
        ∙ subst (λ (cs : List Call). NoDrop sys (start calls k l) cs → sys.view (run sys.call (start calls k l) cs) ≡ at published k) (sym q.split)
        (λ keeps. published_after_lem (start calls k l) q.before q.form q.after k (start_held calls k l) keeps q.accepted) l.kept,
  )
