-- Where the items begin is told by the bytes up to that place and by the first item. Assumes nothing.
use Prim.Native.Nat.{ℕ, zero, suc, ◌+◌, ◌≤◌, ◌<◌}
use mathlib.Core.Path.{◌≡◌, refl, sym, ap, ◌∙◌}
use mathlib.Core.List.{List, [], ◌∷◌, ◌++◌}
use mathlib.Core.Bool.{Bool, true, false, cond}
use mathlib.Core.Logic.{◌⊎◌, inl, inr, ⊎_elim}
use native.Mathlib.Omega.{arith}
use lib.ListN.{length, take, drop, length-take, length-drop, drop_of_length-le, take-append-drop}
use lib.Seq.{take-take}
use Rattle.std.specs.Prelude.{Result, Ok, Err}
use Rattle.lists.proofs.Cases.{bool_cases, ltb-cases, never, zero-not-one}
use Rattle.slices.specs.Bytes.{byte}
use Rattle.slices.specs.Run.{run}
use Rattle.slices.specs.Walk.{walk}
use Rattle.slices.specs.Same.{same, begins, seek, here, first_at}
use Rattle.slices.specs.Text.{text}
use Rattle.slices.proofs.Near.{begins-take}
use Rattle.characters.specs.Utf8.{seq_len, low, high, second, later_byte, triple, char_at}
use Rattle.characters.specs.Says.{char_next, chars_over, all_chars}
use Rattle.attributes.specs.Names.{name_start, white}
use Rattle.prolog.specs.Prolog.{declaration, mark_len, behind_mark, begin_after, begin}
use Rattle.prolog.proofs.Promises.{mark-three, refused-at}
use Rattle.items.specs.Text.{text_to, text_item}
use Rattle.items.specs.Item.{start_tag, item, is_readable, item_end}
use Rattle.items.specs.declared.Item.{Item}
use Rattle.items.specs.declared.Item.TheVariants.{Start, Empty, End, Text, Comment, Unreadable}
use Rattle.digits.proofs.Begins.{declaration-same, after_same}
use Rattle.fronts.specs.Front.{TextEnds, EndsBefore}
use Rattle.fronts.proofs.Shares.{shared-front, shared_long, shared-less, shared-behind, shared-begins}
use Rattle.fronts.proofs.Items.{item-near, item-whole}

-- where nothing follows, every item ends
none-ends : (x : Item) → is_readable x ≡ true → EndsBefore x []
unfolding EndsBefore TextEnds
none-ends (Start t) e = tt
none-ends (Empty t) e = tt
none-ends (End n k) e = tt
none-ends (Text w k) e = tt
none-ends (Comment k) e = tt
none-ends (Unreadable p) e = never e

-- ---- a text t of which no part is an item that can be read: it does not stand at the front of one

module _ (t : List ℕ) (unread : (before n : ℕ) → n < length t → is_readable (item before (take n t)) ≡ false) (before : ℕ) (s y : List ℕ) where
  at_least : is_readable (item before s) ≡ true → take (item_end (item before s)) y ≡ take (item_end (item before s)) s → begins t y ≡ true → length t ≤ item_end (item before s)
  at_least r q b =
      let e = item_end (item before s) in
      ⊎_elim
      (λ l.
      let z : take e t ≡ take e s = ap (take e) (sym (begins-take t y b)) ∙ take-take e (length t) y (omega (arith, l.0)) ∙ q in
      let over : drop e (take e t) ≡ [] = drop_of_length-le (take e t) {i = e} (omega (arith, length-take e t)) in
      let one = item-near before s (take e t) (take-take e e t (omega arith) ∙ z) (rw over (none-ends (item before s) r)) in
      never (sym (unread before e l.0) ∙ ap is_readable one ∙ r))
      (λ l. l.0)
      (ltb-cases e (length t))

module _ (t : List ℕ) (unread : (before n : ℕ) → n < length t → is_readable (item before (take n t)) ≡ false) (before : ℕ) (s y : List ℕ) where
  begins-same : is_readable (item before s) ≡ true → take (item_end (item before s)) y ≡ take (item_end (item before s)) s → begins t y ≡ begins t s
  begins-same r q =
      ⊎_elim
      (λ b. shared (at_least t unread before s y r q b))
      (λ b. ⊎_elim (λ c. shared (at_least t unread before s s r refl c)) (λ c. b ∙ sym c) (bool_cases (begins t s)))
      (bool_cases (begins t y))
    where
      shared : length t ≤ item_end (item before s) → begins t y ≡ begins t s
      shared l = shared-begins s y t (shared-less s y (length t) (item_end (item before s)) l q)

abbrev mark : List ℕ
mark = 0xEF ∷ 0xBB ∷ 0xBF ∷ []

unread-mark : (before n : ℕ) → n < length mark → is_readable (item before (take n mark)) ≡ false
unfolding item byte text_item text_to first_at walk begins same seek here run white all_chars char_next chars_over char_at seq_len triple second low high later_byte
unread-mark before zero l = refl
unread-mark before (suc zero) l = refl
unread-mark before (suc (suc zero)) l = refl
unread-mark before (suc (suc (suc n))) l = absurd (omega arith)

unread-declaration : (before n : ℕ) → n < length (text "<?xml") → is_readable (item before (take n (text "<?xml"))) ≡ false
unfolding item byte text_item text_to first_at walk begins same seek here start_tag name_start
unread-declaration before zero l = refl
unread-declaration before (suc zero) l = refl
unread-declaration before (suc (suc zero)) l = refl
unread-declaration before (suc (suc (suc zero))) l = refl
unread-declaration before (suc (suc (suc (suc zero)))) l = refl
unread-declaration before (suc (suc (suc (suc (suc n))))) l = absurd (omega arith)

-- ---- where the items begin

-- a declaration is no item that can be read
pub xml-unread : (before : ℕ) (s : List ℕ) → begins (text "<?xml") s ≡ true → is_readable (item before s) ≡ false
unfolding item byte start_tag name_start
xml-unread before s b =
    ap (λ (l : List ℕ). is_readable (item before l)) (sym (take-append-drop 5 s) ∙ ap (λ (l : List ℕ). l ++ drop 5 s) (begins-take (text "<?xml") s b))

abbrev xml : List ℕ
xml = text "<?xml"

mark-is : (x : List ℕ) {t : Bool} → begins mark x ≡ t → mark_len x ≡ cond t 3 0
unfolding mark_len
mark-is x e = rw e

mark-inside : (x : List ℕ) → mark_len x ≤ length x
mark-inside x =
    ⊎_elim
    (λ b. omega (arith, mark-is x b, ap length (begins-take mark x b), length-take 3 x))
    (λ b. omega (arith, mark-is x b))
    (bool_cases (begins mark x))

-- right behind the mark, or behind a declaration, which has five bytes and more
pub record Begun (x : List ℕ) (k : ℕ) : Type 0 where
  pub inside : k ≤ length x
  pub from : ((k ≡ mark_len x) × (begins xml (drop (mark_len x) x) ≡ false)) ⊎ (mark_len x + 5 ≤ k)

pub begin-told : (x : List ℕ) (k : ℕ) → begin x ≡ Ok k → Begun x k
unfolding begin begin_after behind_mark
begin-told x k q =
    ⊎_elim
    (λ (t : begins xml (drop (mark_len x) x) ≡ true). by (declaration (mark_len x) (drop (mark_len x) x)) refl (rw t at q))
    (λ (t : begins xml (drop (mark_len x) x) ≡ false).
    let z : ◌≡◌ {A = Result ℕ ℕ} (Ok (mark_len x)) (Ok k) = rw t at q in
    let e : mark_len x ≡ k = cc in
    record { inside = omega (arith, e, mark-inside x); from = inl (sym e, t) })
    (bool_cases (begins xml (drop (mark_len x) x)))
  where
    by : (b : Result ℕ ℕ) → declaration (mark_len x) (drop (mark_len x) x) ≡ b → behind_mark (mark_len x) b ≡ Ok k → Begun x k
    by (Ok n) e z =
        let s : mark_len x + n ≡ k = cc in
        let d = declaration-same (mark_len x) (drop (mark_len x) x) (drop (mark_len x) x) n (λ l. l) (λ i l. refl) e in
        record { inside = omega (arith, d.1, d.2, length-drop (mark_len x) x); from = inr (omega (arith, d.2)) }
    by (Err p) e z = absurd (zero-not-one (cc))

mark-told : (x : List ℕ) (k : ℕ) → Begun x k → (3 ≤ k) ⊎ ((k ≡ 0) × (mark_len x ≡ 0))
mark-told x k b =
    ⊎_elim
    (λ e. ⊎_elim (λ h. inr (h.0 ∙ e, e)) (λ h. inl (omega (arith, h))) b.from)
    (λ e. ⊎_elim (λ h. inl (omega (arith, h.0, e))) (λ h. inl (omega (arith, h))) b.from)
    (mark-three x)

module _ (x y : List ℕ) (k : ℕ) where
  begin-with : begins mark y ≡ begins mark x → begins xml (drop (mark_len x) y) ≡ begins xml (drop (mark_len x) x) → take k y ≡ take k x → begin x ≡ Ok k → begin y ≡ Ok k
  unfolding begin begin_after
  begin-with em ex q e =
      let same : mark_len y ≡ mark_len x = mark-is y em ∙ sym (mark-is x refl) in
      ⊎_elim
      (λ (t : begins xml (drop (mark_len x) x) ≡ true).
      rw (same, ex, t) (after_same (mark_len x) k (declaration (mark_len x) (drop (mark_len x) x)) (declaration (mark_len x) (drop (mark_len x) y)) (rest t) (rw t at e)).0)
      (λ (t : begins xml (drop (mark_len x) x) ≡ false). rw (same, ex, t) (rw t at e))
      (bool_cases (begins xml (drop (mark_len x) x)))
    where
      rest : begins xml (drop (mark_len x) x) ≡ true → (n : ℕ) → mark_len x + n ≡ k → declaration (mark_len x) (drop (mark_len x) x) ≡ Ok n → declaration (mark_len x) (drop (mark_len x) y) ≡ Ok n
      rest t n z d =
          let b = begin-told x k e in
          let s = shared-behind x y (mark_len x) n (rw z q) (omega (arith, z, b.inside)) in
          (declaration-same (mark_len x) (drop (mark_len x) x) (drop (mark_len x) y) n (shared_long (drop (mark_len x) x) (drop (mark_len x) y) n s)
          (shared-front (drop (mark_len x) x) (drop (mark_len x) y) n s) d).0

  module _ (q : begin x ≡ Ok k) where
    -- y begins with the first item of x, which can be read
    pub begin-front : is_readable (item k (drop k x)) ≡ true → take (k + item_end (item k (drop k x))) y ≡ take (k + item_end (item k (drop k x))) x → begin y ≡ Ok k
    begin-front r e =
        let n = item_end (item k (drop k x)) in
        let m = mark_len x in
        let b = begin-told x k q in
        let w = item-whole k (drop k x) r in
        let l : k + n ≤ length x = omega (arith, w.some, w.inside, length-drop k x) in
        let em : begins mark y ≡ begins mark x =
        ⊎_elim (λ h. shared-begins x y mark (shared-less x y 3 (k + n) (omega (arith, h)) e)) (λ h. first k h.0 r e) (mark-told x k b) in
        let ex : begins xml (drop m y) ≡ begins xml (drop m x) =
        ⊎_elim
        (λ h. rw (← h.0) (begins-same xml unread-declaration k (drop k x) (drop k y) r (shared-behind x y k n e l)))
        (λ h. shared-begins (drop m x) (drop m y) xml (shared-behind x y m 5 (shared-less x y (m + 5) (k + n) (omega (arith, h)) e) (omega (arith, h))))
        b.from in
        begin-with em ex (shared-less x y k (k + n) (omega arith) e) q
      where
        first : (k : ℕ) → k ≡ 0 → is_readable (item k (drop k x)) ≡ true → take (k + item_end (item k (drop k x))) y ≡ take (k + item_end (item k (drop k x))) x
            → begins mark y ≡ begins mark x
        first zero z r e = begins-same mark unread-mark 0 x y r (shared-less x y (item_end (item 0 x)) (0 + item_end (item 0 x)) (omega arith) e)
        first (suc k) z r e = absurd (omega arith)

none-xml : begins xml [] ≡ false
unfolding begins same
none-xml = refl

none-mark : begins mark [] ≡ false
unfolding begins same
none-mark = refl

empty-begin : begin [] ≡ Ok 0
unfolding begin begin_after mark_len begins same
empty-begin = refl

mark-begin : begin mark ≡ Ok 3
unfolding begin begin_after mark_len begins same
mark-begin = refl

-- a document that ends where its items would begin
module _ (x : List ℕ) where
  pub begin-cut : (k : ℕ) → begin x ≡ Ok k → begin (take k x) ≡ Ok k
  begin-cut k q =
      let m = mark_len x in
      let b = begin-told x k q in
      let em : begins mark (take k x) ≡ begins mark x =
      ⊎_elim (λ h. shared-begins x (take k x) mark (take-take 3 k x h)) (λ h. bare k h.0 h.1) (mark-told x k b) in
      let ex : begins xml (drop m (take k x)) ≡ begins xml (drop m x) =
      ⊎_elim
      (λ h. rw (← h.0) (ap (begins xml) (drop_of_length-le (take k x) {i = k} (omega (arith, length-take k x))) ∙ none-xml ∙ sym (rw (← h.0) at h.1)))
      (λ h. shared-begins (drop m x) (drop m (take k x)) xml (shared-behind x (take k x) m 5 (take-take (m + 5) k x h) (omega (arith, h, b.inside))))
      b.from in
      begin-with x (take k x) k em ex (take-take k k x (omega arith)) q
    where
      bare : (k : ℕ) → k ≡ 0 → mark_len x ≡ 0 → begins mark (take k x) ≡ begins mark x
      bare zero z e = ⊎_elim (λ t. absurd (omega (arith, e, mark-is x t))) (λ t. none-mark ∙ sym t) (bool_cases (begins mark x))
      bare (suc k) z e = absurd (omega arith)

  -- or where its declaration, which cannot be read
  pub misdeclared-cut : (p : ℕ) → begin x ≡ Err p → (begin (take p x) ≡ Ok p) × (p ≤ length x)
  misdeclared-cut p e =
      rw (refused-at x p e)
      (⊎_elim
      (λ (b : begins mark x ≡ true). let z = begins-take mark x b in let n : mark_len x ≡ 3 = mark-is x b in rw n (ap begin z ∙ mark-begin, omega (arith, ap length z, length-take 3 x)))
      (λ (b : begins mark x ≡ false). let n : mark_len x ≡ 0 = mark-is x b in rw n (empty-begin, omega arith))
      (bool_cases (begins mark x)))
