-- The loop over the items: its invariant, `Ran`, and how it starts, goes on and ends. Assumes nothing.
use Prim.Native.Nat.{ℕ, zero, suc, pred, ◌+◌, ◌≤◌, ◌<◌}
use mathlib.Core.Path.{◌≡◌, refl, sym, ap, ◌∙◌}
use mathlib.Core.List.{List, [], ◌∷◌}
use mathlib.Core.Bool.{true}
use native.Mathlib.Omega.{arith}
use native.Mathlib.Nat.{add-zero}
use lib.IntN.{ℤ}
use lib.ListN.{length, drop, drop_of_length-le, length-drop}
use lib.Seq.{drop-drop}
use Rattle.lists.proofs.Cases.{never}
use Rattle.items.specs.Parts.{passed}
use Rattle.items.specs.Item.{item, item_end}
use Rattle.items.specs.declared.Item.{Item}
use Rattle.items.specs.declared.Item.TheVariants.{Start, Empty, End, Text, Comment, Unreadable}
use Rattle.items.proofs.Promises.{Placed as At, item-placed}
use Rattle.guideline.specs.Rows.{every_row, rows_in, rows_of}
use Rattle.guideline.proofs.Each.{rows-in}
use Rattle.states.specs.Moves.{begun, step_by, step, moved}
use Rattle.states.proofs.Acts.{step-rows}
use Rattle.states.specs.declared.State.{State}
use Rattle.states.specs.declared.Room.{Room}
use Rattle.states.specs.declared.Entry.{Entry}
use Rattle.states.specs.declared.Entry.TheVariants.{Nothing}
use Rattle.states.specs.Step.{Step, Next, Refused}
use Rattle.reader.specs.Items.{Placed, placed, items_after, items_from}
use Rattle.reader.specs.Rows.{brought_by, series_with, positions_with, amounts_with, series_after, positions_after, amounts_after, used_with, used_before}
use Rattle.reader.specs.declared.Found.{Found}
use Rattle.reader.specs.Reading.{Tables, tab, out, refused_at, ended_at, without_used, step_of, tables_after, read_items, items_read}

skip : (k at : ℕ) (l : List ℕ) → items_after k at l ≡ items_after 0 (at + k) (drop k l)
unfolding items_after
skip zero at [] = refl
skip zero at (b ∷ t) = rw add-zero
skip (suc k) at [] = refl
skip (suc k) at (b ∷ t) = skip k (suc at) t ∙ ap (λ (n : ℕ). items_after 0 n (drop k t)) (omega arith)

at_item : (at : ℕ) (l : List ℕ) (n : ℕ) → 0 < length l → item_end (item at l) ≡ n → 1 ≤ n
    → items_after 0 at l ≡ placed at l ∷ items_after 0 (at + n) (drop n l)
unfolding items_after
at_item at [] n p q h = absurd (omega arith)
at_item at (b ∷ t) zero p q h = absurd (omega arith)
at_item at (b ∷ t) (suc n) p q h =
    rw (items_after, q)
    (ap (λ (l : List Placed). placed at (b ∷ t) ∷ l) (skip n (suc at) t ∙ ap (λ (m : ℕ). items_after 0 m (drop n t)) (omega arith)))

pub items-next : (doc : List ℕ) (at n : ℕ) → at < length doc → item_end (item at (drop at doc)) ≡ n → 1 ≤ n
    → items_from doc at ≡ placed at (drop at doc) ∷ items_from doc (at + n)
unfolding items_from
items-next doc at n h q m =
    at_item at (drop at doc) n (rw length-drop (omega arith)) q m
    ∙ ap (λ (l : List ℕ). placed at (drop at doc) ∷ items_after 0 (at + n) l) (drop-drop n at doc)

pub items-over : (doc : List ℕ) (at : ℕ) → length doc ≤ at → items_from doc at ≡ []
unfolding items_from items_after
items-over doc at h = rw (drop_of_length-le doc h)

module _ (doc : List ℕ) (room : Room) (p : Placed) (xs : List Placed) (st : State) (t : Tables) where
  pub read_next : (st' : State) (e : Entry) → step_of doc t.series room p st ≡ Next st' e
      → read_items doc room (p ∷ xs) st t ≡ read_items doc room xs st' (tables_after p st' e t)
  unfolding read_items
  read_next st' e q = rw (read_items, q)

  pub read-stop : (n : ℕ) → step_of doc t.series room p st ≡ Refused n
      → read_items doc room (p ∷ xs) st t ≡ record { found = refused_at n p.at st; tables = t }
  unfolding read_items
  read-stop n q = rw (read_items, q)

-- what is left of the items at the place `at` comes to what all of them come to
pub record Ran (doc : List ℕ) (from : ℕ) (t : Tables) (rows : List ℕ) (room : Room) (ser pos : List ℕ) (ams : List ℤ) (st : State) (at : ℕ) : Type 0 where
  pub all : rows ≡ every_row
  pub ser-same : length ser ≡ length t.series
  pub pos-same : length pos ≡ length t.positions
  pub ams-same : length ams ≡ length t.amounts
  pub left : read_items doc room (items_from doc at) st (tab ser pos ams) ≡ items_read doc room from t

module _ (doc : List ℕ) (from : ℕ) (t : Tables) where
  pub ran-start : {rows : List ℕ} {room : Room} {st : State} → rows ≡ every_row → st ≡ begun
      → Ran doc from t rows room t.series t.positions t.amounts st from
  unfolding items_read
  ran-start ea es =
      record { all = ea; ser-same = refl; pos-same = refl; ams-same = refl; left = rw es refl }

pub unreadable : (st : State) (p : ℕ) (s : List ℕ) (room : Room) → step st (Unreadable p) s room ≡ Refused 2
unfolding step moved
unreadable st p s room = refl

pub still : (st : State) (x : Item) → passed x ≡ true → (s : List ℕ) (room : Room) → step st x s room ≡ Next st Nothing
unfolding step moved passed
still st (Start t) w s room = never w
still st (Empty t) w s room = never w
still st (End n e) w s room = never w
still st (Text white e) w s room = rw w refl
still st (Comment e) w s room = refl
still st (Unreadable p) w s room = never w

module _ {doc : List ℕ} {from : ℕ} {t : Tables} {rows : List ℕ} {room : Room} {ser pos : List ℕ} {ams : List ℤ} {st : State} {at : ℕ}
    (r : Ran doc from t rows room ser pos ams st at) where
  pub ran-rows : {l : List ℕ} → l ≡ rows_in rows st.kind → l ≡ rows_of st.kind
  ran-rows e = e ∙ rw r.all (rows-in st.kind)

  pub ran-end : length doc ≤ at → {f : Found} → f ≡ ended_at (rows_in rows st.kind) (length doc) st → out f ser pos ams ≡ items_read doc room from t
  unfolding read_items
  ran-end h e = rw (e, r.all, rows-in st.kind) (sym (ap (λ (xs : List Placed). read_items doc room xs st (tab ser pos ams)) (items-over doc at h)) ∙ r.left)

  -- s is the part from `at` on, x its first item, y what the state came to
  module _ {s : List ℕ} {x : Item} (h : at < length doc) (es : s ≡ drop at doc) (ex : x ≡ item at s) (m : 1 ≤ item_end x) where
    ahead : items_from doc at ≡ placed at (drop at doc) ∷ items_from doc (at + item_end x)
    ahead = items-next doc at (item_end x) h (sym (ap item_end (ex ∙ ap (item at) es))) m

    turn : {y : Step} → y ≡ without_used doc ser x s (step_by st rows x s room) → step_of doc ser room (placed at (drop at doc)) st ≡ y
    unfolding step_of
    turn ey = sym (rw (r.all, step-rows st x s room, ex, es) at ey)

    pub ran-stop : {y : Step} {n : ℕ} → y ≡ without_used doc ser x s (step_by st rows x s room) → y ≡ Refused n
        → out (refused_at n at st) ser pos ams ≡ items_read doc room from t
    ran-stop {y} {n} ey q =
        sym (read-stop doc room (placed at (drop at doc)) (items_from doc (at + item_end x)) st (tab ser pos ams) n (turn ey ∙ q))
        ∙ sym (ap (λ (xs : List Placed). read_items doc room xs st (tab ser pos ams)) ahead)
        ∙ r.left

    pub ran-next : {y : Step} {st' : State} {e : Entry} {ser' pos' : List ℕ} {ams' : List ℤ} → y ≡ without_used doc ser x s (step_by st rows x s room) → y ≡ Next st' e
        → length ser' ≡ length ser → length pos' ≡ length pos → length ams' ≡ length ams
        → tab ser' pos' ams' ≡ tables_after (record { at = at; item = x; rest = s }) st' e (tab ser pos ams)
        → Ran doc from t rows room ser' pos' ams' st' (at + item_end x)
    ran-next {y} {st'} {e} {ser'} {pos'} {ams'} ey q ls lp la qt =
        let et : tab ser' pos' ams' ≡ tables_after (placed at (drop at doc)) st' e (tab ser pos ams) = qt ∙ rw (ex, es) refl in
        record {
          all = r.all;
          ser-same = ls ∙ r.ser-same;
          pos-same = lp ∙ r.pos-same;
          ams-same = la ∙ r.ams-same;
          left =
              ap (λ (t' : Tables). read_items doc room (items_from doc (at + item_end x)) st' t') et
              ∙ sym (read_next doc room (placed at (drop at doc)) (items_from doc (at + item_end x)) st (tab ser pos ams) st' e (turn ey ∙ q))
              ∙ sym (ap (λ (xs : List Placed). read_items doc room xs st (tab ser pos ams)) ahead)
              ∙ r.left;
        }

    -- an item that is passed over
    pub ran-pass : passed x ≡ true → Ran doc from t rows room ser pos ams st (at + item_end x)
    unfolding without_used used_before used_with tables_after series_after series_with positions_after positions_with amounts_after amounts_with brought_by
    ran-pass w = ran-next {y = Next st Nothing} (rw (r.all, step-rows st x s room, still st x w s room) refl) refl refl refl refl refl

  -- "An item is either one of five kinds or a refusal with its place": the loop returns with that place
  pub ran-unread : {s : List ℕ} {x : Item} {p : ℕ} → at < length doc → s ≡ drop at doc → x ≡ item at s → 1 ≤ item_end x → x ≡ Unreadable p
      → (p ≡ at) × (out (refused_at 2 p st) ser pos ams ≡ items_read doc room from t)
  unfolding without_used At
  ran-unread {s} {x} {p} h es ex m q =
      let k : p ≡ at = rw (sym ex ∙ q) at (item-placed at s) in
      (k, rw k (ran-stop h es ex m {y = Refused 2} (rw (q, r.all, step-rows st (Unreadable p) s room, unreadable st p s room) refl) refl))

-- no item has no byte
pub items-few : (l : List ℕ) (k at : ℕ) → length (items_after k at l) ≤ length l
unfolding items_after
items-few [] k at = omega arith
items-few (b ∷ t) (suc k) at = let h = items-few t k (suc at) in omega (arith, h)
items-few (b ∷ t) zero at = let h = items-few t (pred (item_end (item at (b ∷ t)))) (suc at) in omega (arith, h)
