-- Demand 2: "else the first fault is named". The items one after the other, and the whole document. Assumes nothing.
use Prim.Native.Nat.{ℕ, ◌≤◌, ◌<◌}
use mathlib.Core.Path.{◌≡◌, refl, sym, ap, ◌∙◌, subst}
use mathlib.Core.List.{List, [], ◌∷◌}
use mathlib.Core.Bool.{Bool, true, false, cond}
use mathlib.Core.Logic.{◌⊎◌, inl, inr, ⊎_elim}
use native.Mathlib.Omega.{arith}
use lib.Dec.{eqb, ltb}
use lib.ListN.{length}
use Rattle.std.specs.Prelude.{Result, Ok, Err}
use Rattle.lists.proofs.Cases.{bool_cases, never}
use Rattle.structure.specs.Rows.{over_of}
use Rattle.guideline.specs.Rows.{rows_of}
use Rattle.prolog.specs.Prolog.{begin}
use Rattle.notes.specs.declared.Shape.{Shape}
use Rattle.states.specs.Moves.{begun}
use Rattle.states.specs.declared.State.{State}
use Rattle.states.specs.declared.Room.{Room}
use Rattle.states.specs.declared.Entry.{Entry}
use Rattle.states.specs.Step.{Step, Next, Refused}
use Rattle.reader.specs.Items.{Placed, items_from}
use Rattle.reader.specs.Reading.{Tables, Out, blank, refused_at, accepted_at, ended_at, step_of, tables_after, read_items, items_read, read_after, read_into, room_in}
use Rattle.reader.specs.Answer.{Outcome, answer_of, told, noted, read_of}
use Rattle.reader.specs.declared.Found.{Found}
use Rattle.reader.specs.declared.Answer.{Answer}
use Rattle.reader.proofs.Sheets.{sheet-found, read-noted}
use Rattle.faults.specs.Faults.{Clause, HasFault, Smallest, Faultless, faults_of, after, FirstFault, NoFault, FirstFaultAfter, NoFaultAfter, FirstIn, NoneIn}
use Rattle.faults.proofs.Clauses.{first_held, Rising, none-held, first-smallest}
use Rattle.faults.proofs.Turns.{refusal_in}
use Rattle.faults.proofs.Named.{step_same, faults-rising, Numbered, step-numbered}

-- ---- a step

-- what was found is a refusal with the first fault, or an acceptance without one
abbrev Told : (ℕ → ℕ → Type 0) → Type 0 → ℕ → ℕ → Type 0
Told first none n p = ((n ≡ 0) × none) ⊎ ((n ≡ 0 → ⊥) × first n p)

module _ (doc : List ℕ) (room : Room) (i : Placed) (xs : List Placed) (x : State) (t : Tables) where
  abbrev cs : List Clause
  cs = faults_of doc t.series room i x

  abbrev here : Step → Out
  here (Next x' e) = read_items doc room xs x' (tables_after i x' e t)
  here (Refused n) = record { found = refused_at n i.at x; tables = t }

  turn : (o : Step) → step_of doc t.series room i x ≡ o
      → ((x' : State) (t' : Tables) → Told (FirstFault doc room xs x' t') (NoFault doc room xs x' t') (read_items doc room xs x' t').found.refusal (read_items doc room xs x' t').found.place)
      → Told
      (λ n p. (Smallest cs n × (p ≡ i.at)) ⊎ (Faultless cs × after o (λ x' e. FirstFault doc room xs x' (tables_after i x' e t) n p)))
      (Faultless cs × after o (λ x' e. NoFault doc room xs x' (tables_after i x' e t))) (here o).found.refusal (here o).found.place
  unfolding refused_at
  turn (Next x' e) q rest =
      let z : first_held cs ≡ 0 = sym (step_same doc t.series room i x) ∙ ap refusal_in q in
      let f = none-held 2 cs (omega arith) (faults-rising doc t.series room i x) z in
      ⊎_elim (λ h. inl (h.0, (f, h.1))) (λ h. inr (h.0, inr (f, h.1))) (rest x' (tables_after i x' e t))
  turn (Refused n) q rest =
      let z : first_held cs ≡ n = sym (step_same doc t.series room i x) ∙ ap refusal_in q in
      let u : n ≡ 0 → ⊥ = subst Numbered q (step-numbered doc t.series room i x) in
      inr (u, inl (first-smallest 2 cs (faults-rising doc t.series room i x) z u, refl))

-- ---- the items

items-told : (doc : List ℕ) (room : Room) (xs : List Placed) (x : State) (t : Tables)
    → Told (FirstFault doc room xs x t) (NoFault doc room xs x t) (read_items doc room xs x t).found.refusal (read_items doc room xs x t).found.place
unfolding read_items FirstFault NoFault ended_at accepted_at refused_at
items-told doc room [] x t =
    ⊎_elim
    (λ (y : over_of (rows_of x.kind) x.row x.inside ≡ true). rw y (inl (refl, refl)))
    (λ (y : over_of (rows_of x.kind) x.row x.inside ≡ false). rw y (inr ((λ z. omega (arith, z)), (refl, (refl, refl)))))
    (bool_cases (over_of (rows_of x.kind) x.row x.inside))
items-told doc room (i ∷ xs) x t = turn doc room i xs x t (step_of doc t.series room i x) refl (λ x' t'. items-told doc room xs x' t')

-- ---- there is one first fault, and where there is one, it is not that there is none

smallest-one : (cs : List Clause) {n m : ℕ} → Smallest cs n → Smallest cs m → n ≡ m
smallest-one cs {n} {m} a b = let l = a.least m b.has in let u = b.least n a.has in omega (arith, l, u)

abbrev Same : ℕ → ℕ → ℕ → ℕ → Type 0
Same n p m q = (n ≡ m) × (p ≡ q)

after_both : (o : Step) {P Q : State → Entry → Type 0} {R : Type 0} → after o P → after o Q → ((x : State) (e : Entry) → P x e → Q x e → R) → R
after_both (Next x e) a b f = f x e a b
after_both (Refused m) a b f = absurd a

first_one : (doc : List ℕ) (room : Room) (xs : List Placed) (x : State) (t : Tables) {n p m q : ℕ}
    → FirstFault doc room xs x t n p → FirstFault doc room xs x t m q → Same n p m q
unfolding FirstFault
first_one doc room [] x t a b = (a.1.0 ∙ sym b.1.0, a.1.1 ∙ sym b.1.1)
first_one doc room (i ∷ xs) x t {n} {p} {m} {q} a b =
    ⊎_elim
    (λ g. ⊎_elim (λ h. (smallest-one (faults_of doc t.series room i x) g.0 h.0, g.1 ∙ sym h.1)) (λ h. absurd (h.0 n g.0.has)) b)
    (λ g.
    ⊎_elim (λ h. absurd (g.0 m h.0.has))
    (λ h. after_both (step_of doc t.series room i x) g.1 h.1 (λ x' e. first_one doc room xs x' (tables_after i x' e t))) b)
    a

none_first : (doc : List ℕ) (room : Room) (xs : List Placed) (x : State) (t : Tables) (n p : ℕ) → NoFault doc room xs x t → FirstFault doc room xs x t n p → ⊥
unfolding FirstFault NoFault
none_first doc room [] x t n p a b = never (sym b.0 ∙ a)
none_first doc room (i ∷ xs) x t n p a b =
    ⊎_elim (λ h. a.0 n h.0.has) (λ h. after_both (step_of doc t.series room i x) a.1 h.1 (λ x' e. none_first doc room xs x' (tables_after i x' e t) n p)) b

-- ---- the document

told-after : (doc : List ℕ) (t : Tables) (b : Result ℕ ℕ) → Told (FirstFaultAfter doc t b) (NoFaultAfter doc t b) (read_after doc t b).found.refusal (read_after doc t b).found.place
unfolding read_after items_read FirstFaultAfter NoFaultAfter refused_at
told-after doc t (Ok k) = items-told doc (room_in t) (items_from doc k) begun t
told-after doc t (Err q) = inr ((λ z. omega (arith, z)), (refl, refl))

after_one : (doc : List ℕ) (t : Tables) (b : Result ℕ ℕ) {n p m q : ℕ} → FirstFaultAfter doc t b n p → FirstFaultAfter doc t b m q → Same n p m q
unfolding FirstFaultAfter
after_one doc t (Ok k) a b = first_one doc (room_in t) (items_from doc k) begun t a b
after_one doc t (Err r) a b = (a.0 ∙ sym b.0, a.1 ∙ sym b.1)

after_none : (doc : List ℕ) (t : Tables) (b : Result ℕ ℕ) (n p : ℕ) → NoFaultAfter doc t b → FirstFaultAfter doc t b n p → ⊥
unfolding FirstFaultAfter NoFaultAfter
after_none doc t (Ok k) n p a b = none_first doc (room_in t) (items_from doc k) begun t n p a b
after_none doc t (Err r) n p a b = a

module _ (doc : List ℕ) (ns np na : ℕ) (shape : Shape) (nb : ℕ) (wide : 16 ≤ nb) (short : length doc ≤ 1048576) where
  abbrev answer : Answer
  answer = (read_of doc ns np na shape nb).answer

  pub refusal_is : answer.refusal ≡ (read_into doc (blank ns np na)).found.refusal
  unfolding noted told answer_of
  refusal_is = ap (λ (o : Outcome). o.answer.refusal) (sym (read-noted doc ns np na shape nb wide)) ∙ ap (λ (f : Found). f.refusal) (sheet-found doc ns np na short)

  pub place_is : answer.place ≡ (read_into doc (blank ns np na)).found.place
  unfolding noted told answer_of
  place_is = ap (λ (o : Outcome). o.answer.place) (sym (read-noted doc ns np na shape nb wide)) ∙ ap (λ (f : Found). f.place) (sheet-found doc ns np na short)

  sheet-told : Told (FirstIn doc ns np na) (NoneIn doc ns np na) answer.refusal answer.place
  unfolding FirstIn NoneIn read_into
  sheet-told =
      let P = Told (FirstIn doc ns np na) (NoneIn doc ns np na) in
      subst (λ (n : ℕ). P n answer.place) (sym refusal_is)
      (subst (λ (p : ℕ). P (read_into doc (blank ns np na)).found.refusal p) (sym place_is) (told-after doc (blank ns np na) (begin doc)))

  -- a refusal names the first fault and its place
  pub first-named : (answer.refusal ≡ 0 → ⊥) → FirstIn doc ns np na answer.refusal answer.place
  first-named u = ⊎_elim (λ h. absurd (u h.0)) (λ h. h.1) sheet-told

  -- a document whose first fault is n, at p, is refused with n, at p
  pub first-refused : (n p : ℕ) → FirstIn doc ns np na n p → (answer.refusal ≡ n) × (answer.place ≡ p)
  unfolding FirstIn NoneIn
  first-refused n p h =
      ⊎_elim (λ y. absurd (after_none doc (blank ns np na) (begin doc) n p y.1 h)) (λ y. after_one doc (blank ns np na) (begin doc) y.1 h) sheet-told

  -- without a fault it is accepted, and what is accepted has none
  pub faultless-accepted : NoneIn doc ns np na → answer.refusal ≡ 0
  unfolding FirstIn NoneIn
  faultless-accepted h =
      ⊎_elim (λ y. y.0) (λ y. absurd (after_none doc (blank ns np na) (begin doc) answer.refusal answer.place h y.1)) sheet-told

  pub accepted-faultless : answer.refusal ≡ 0 → NoneIn doc ns np na
  accepted-faultless e = ⊎_elim (λ y. y.1) (λ y. absurd (y.0 e)) sheet-told
