-- "Then number, place, note and all tables are the same.": a document whose TimeSeriesIdentifications are replaced by a one-to-one rule is read as it was.
-- Assumes nothing.
use Prim.Native.Nat.{ℕ, ◌+◌, ◌-◌}
use mathlib.Core.Path.{◌≡◌, refl, sym, ap, ◌∙◌}
use mathlib.Core.List.{List, [], ◌∷◌}
use mathlib.Core.Bool.{Bool, true, false, cond}
use mathlib.Core.Logic.{◌⊎◌, inl, inr, ⊎_elim}
use native.Mathlib.Omega.{arith}
use lib.ListN.{length, drop, get_or}
use Rattle.std.specs.Prelude.{Result, Ok, Err}
use Rattle.lists.proofs.Cases.{bool_cases, never, zero-not-one}
use Rattle.slices.specs.Part.{part_of}
use Rattle.slices.specs.Same.{same}
use Rattle.slices.proofs.Sames.{same_self, same-equal}
use Rattle.slices.specs.Text.{text}
use Rattle.characters.specs.Says.{says}
use Rattle.characters.proofs.Saying.{says_none}
use Rattle.slices.specs.declared.Span.{Span}
use Rattle.elements.specs.Names.{names, number_in, element_no}
use Rattle.items.specs.Item.{is_readable}
use Rattle.items.specs.Parts.{span_of}
use Rattle.items.specs.declared.Item.{Item}
use Rattle.items.specs.declared.Item.TheVariants.{Start, Empty, End, Text, Comment, Unreadable}
use Rattle.prolog.specs.Prolog.{begin}
use Rattle.structure.specs.Rows.{name_of}
use Rattle.columns.specs.Columns.{form_of, collapsed, role_of}
use Rattle.guideline.specs.Rows.{beschaffungsanforderung, kostenblatt, network_constraint_document, rows_of}
use Rattle.guideline.proofs.Each.{of-table}
use Rattle.states.specs.Moves.{entry_of}
use Rattle.states.specs.declared.Entry.TheVariants.{Identification}
use Rattle.reader.specs.Items.{Placed, items_from}
use Rattle.reader.specs.Rows.{quoted}
use Rattle.reader.specs.Reading.{Out, out, read_sheet}
use Rattle.notes.specs.declared.Shape.{Shape}
use Rattle.reader.specs.Answer.{read_of}
use Rattle.digits.specs.Unseen.{Unseen}
use Rattle.digits.specs.Items.{InSpan, JoinsV}
use Rattle.digits.specs.Identifications.{PutFor}
use Rattle.digits.proofs.Identifications.{put-unseen, put-judged, says-one}
use Rattle.blindness.specs.Readable.{tag_named, InTag, InTags, InTagsAfter}
use Rattle.blindness.specs.Replaced.{Joins, JoinsAfter, Replaced}
use Rattle.blindness.specs.Sources.{value_at}
use Rattle.blindness.specs.Renamed.{values_named, values_named_after, identifications_in, OneSpan, Renamed}
use Rattle.blindness.proofs.Aligned.{in-v}
use Rattle.blindness.proofs.Steps.{brought-role, same-value, BlindKinds, all_fit, fits, named-row, row-name}
use Rattle.blindness.proofs.Shown.{Tabled, value-part, Shown, shown-none, shown-next, same-used, same_after}
use Rattle.blindness.proofs.Runs.{Parts, parts-after, SameOut}
use Rattle.blindness.proofs.Told.{sheets-same}

-- ---- the values of the tags of one name, as a list and one by one

module _ (name : List ℕ) where
  behind : (x : Placed) (xs : List Placed) (v : Span) → OneSpan v (cond (is_readable x.item) (values_named name xs) [])
      → (is_readable x.item ≡ true) × OneSpan v (values_named name xs)
  behind x xs v h = ⊎_elim (λ y. (y, rw y at h)) (λ y. absurd (rw y at h)) (bool_cases (is_readable x.item))

  one_of : (x : Placed) (xs : List Placed) (v : Span) → OneSpan v (values_named name (x ∷ xs))
      → ((tag_named name x.item x.rest ≡ true) × (v ≡ value_at x)) ⊎ ((is_readable x.item ≡ true) × OneSpan v (values_named name xs))
  unfolding values_named
  one_of x xs v h =
      ⊎_elim
      (λ (n : tag_named name x.item x.rest ≡ true).
      let z : (v ≡ value_at x) ⊎ OneSpan v (cond (is_readable x.item) (values_named name xs) []) = rw n at h in
      ⊎_elim (λ e. inl (n, e)) (λ m. inr (behind x xs v m)) z)
      (λ (n : tag_named name x.item x.rest ≡ false). inr (behind x xs v (rw n at h)))
      (bool_cases (tag_named name x.item x.rest))

  first_one : (x : Placed) (xs : List Placed) → tag_named name x.item x.rest ≡ true → OneSpan (value_at x) (values_named name (x ∷ xs))
  unfolding values_named
  first_one x xs n = rw n (inl refl)

  later-one : (x : Placed) (xs : List Placed) (v : Span) → is_readable x.item ≡ true → OneSpan v (values_named name xs) → OneSpan v (values_named name (x ∷ xs))
  unfolding values_named
  later-one x xs v e m =
      let z : OneSpan v (cond (is_readable x.item) (values_named name xs) []) = rw e m in
      ⊎_elim (λ n. rw n (inr z)) (λ n. rw n z) (bool_cases (tag_named name x.item x.rest))

  -- a place of such a value
  in-tags : (xs : List Placed) (v : Span) → OneSpan v (values_named name xs) → (p : ℕ) → InSpan p v → InTags (InTag name) xs p
  unfolding values_named InTags value_at
  in-tags [] v m p h = absurd m
  in-tags (x ∷ xs) v m p h =
      ⊎_elim
      (λ z.
      let g : InSpan p (value_at x) = rw z.1 at h in
      inl (p - x.at, omega (arith, g.0), (z.0, in-v x.item (p - x.at) (omega (arith, g.0), omega (arith, g.0, g.1)))))
      (λ z. inr (z.0, in-tags xs v z.1 p h))
      (one_of x xs v m)

  in_after : (doc : List ℕ) (b : Result ℕ ℕ) (v : Span) → OneSpan v (values_named_after name doc b) → (p : ℕ) → InSpan p v → InTagsAfter (InTag name) doc b p
  unfolding values_named_after InTagsAfter
  in_after doc (Ok n) v m p h = in-tags (items_from doc n) v m p h
  in_after doc (Err q) v m p h = absurd m

  -- R joins what stands in x at each of these places to what stands there in y
  module _ (R : List ℕ → List ℕ → Type 0) (x y : List ℕ) where
    joins-v : (at : ℕ) (i : Item) (s : List ℕ) → s ≡ drop at x → tag_named name i s ≡ true
        → R (part_of x (at + (span_of i).start) (span_of i).len) (part_of y (at + (span_of i).start) (span_of i).len) → JoinsV R i s (drop at y)
    unfolding tag_named span_of JoinsV quoted
    joins-v at (Start t) s ex n h = rw (value-part x at s t.v ex, value-part y at (drop at y) t.v refl) h
    joins-v at (Empty t) s ex n h = rw (value-part x at s t.v ex, value-part y at (drop at y) t.v refl) h
    joins-v at (End m e) s ex n h = never n
    joins-v at (Text w e) s ex n h = never n
    joins-v at (Comment e) s ex n h = never n
    joins-v at (Unreadable p) s ex n h = never n

    joins : (xs : List Placed) → Parts x xs → ((v : Span) → OneSpan v (values_named name xs) → R (quoted v x) (quoted v y)) → Joins name R y xs
    unfolding Joins Parts value_at quoted
    joins [] h f = tt
    joins (p ∷ xs) h f = (
      λ n. joins-v p.at p.item p.rest h.0 n (f (value_at p) (first_one p xs n)),
      λ e. joins xs h.1 (λ v m. f v (later-one p xs v e m)),
    )

    joins_after : (b : Result ℕ ℕ) → ((v : Span) → OneSpan v (values_named_after name x b) → R (quoted v x) (quoted v y)) → JoinsAfter name R x y b
    unfolding values_named_after JoinsAfter items_from
    joins_after (Ok n) f = joins (items_from x n) (parts-after x (drop n x) 0 n refl) f
    joins_after (Err q) f = tt

-- ---- the rows of a TimeSeriesIdentification

abbrev named : List ℕ
named = text "TimeSeriesIdentification"

abbrev id_fit : List ℕ → Bool
id_fit = all_fit named 2 false 8

ids-fit : (kind : ℕ) → id_fit (rows_of kind) ≡ true
unfolding all_fit fits rows_of beschaffungsanforderung kostenblatt network_constraint_document element_no number_in names same name_of form_of collapsed role_of
ids-fit = of-table id_fit refl

id-known : element_no named ≡ 0 → ⊥
unfolding element_no number_in names same
id-known e = omega (arith, e)

module _ (R : List ℕ → List ℕ → Type 0) (put : (a b : List ℕ) → R a b → PutFor a b) where
  id-kinds : BlindKinds named R Identification
  unfolding entry_of
  id-kinds =
      record {
        rows = λ kind.
            record {
              each = λ r e.
                  let w = named-row named 2 false 8 (rows_of kind) (ids-fit kind) r e in
                  record { judged = λ h {a} {b} j. rw (w.form-is, w.spaces-are) (put-judged h (put a b j)); brings = λ p. rw w.role-is };
              alone = λ r p e.
                  row-name named 2 false 8 (rows_of kind) (ids-fit kind) r
                  (brought-role (role_of (get_or (rows_of kind) r 0)) p Identification (λ z. zero-not-one (cc)) e);
            };
        known = id-known;
        some = λ z. zero-not-one (cc);
      }

-- ---- "used before" by a one-to-one rule

same-nothing : (a b : List ℕ) → length a ≡ length b → same [] a ≡ same [] b
unfolding same
same-nothing [] [] e = refl
same-nothing [] (d ∷ b) e = absurd (omega arith)
same-nothing (c ∷ a) [] e = absurd (omega arith)
same-nothing (c ∷ a) (d ∷ b) e = refl

equal-same : (a b : List ℕ) → a ≡ b → same a b ≡ true
equal-same a b e = rw e (same_self b)

same-both : (a a' b b' : List ℕ) → (a ≡ a' → b ≡ b') → (b ≡ b' → a ≡ a') → same a a' ≡ same b b'
same-both a a' b b' f g =
    ⊎_elim
    (λ t. t ∙ sym (equal-same b b' (f (same-equal a a' t))))
    (λ t. t ∙ sym (⊎_elim (λ u. never (sym t ∙ equal-same a a' (g (same-equal b b' u)))) (λ u. u) (bool_cases (same b b'))))
    (bool_cases (same a a'))

module _ (x y : List ℕ) (d : Renamed x y) where
  -- the values of one tag
  record Put (a b : List ℕ) : Type 0 where
    value : PutFor a b
    place : Span
    one : OneSpan place (identifications_in x)
    first : a ≡ quoted place x
    second : b ≡ quoted place y

  -- what two of them say is the same in x exactly when it is in y: their bytes are
  put_one : {a b a' b' : List ℕ} → Put a b → Put a' b' → same (says a) (says a') ≡ same (says b) (says b')
  put_one {a} {b} {a'} {b'} p q =
      let r = d.one-to-one p.place q.place p.one q.one in
      same-both (says a) (says a') (says b) (says b')
      (λ e. ap says (p.second ∙ r.0 (sym p.first ∙ says-one p.value.before q.value.before e ∙ q.first) ∙ sym q.second))
      (λ e. ap says (p.first ∙ r.1 (sym p.second ∙ says-one p.value.after q.value.after e ∙ q.second) ∙ sym q.first))

  put-replaced : Replaced named Put x y
  unfolding identifications_in
  put-replaced =
      record {
        long = d.replaced.long;
        places = λ p. ⊎_elim inl (λ z. inr (in_after named x (begin x) z.0 z.1 p z.2)) (d.replaced.places p);
        values = joins_after named Put x y (begin x) (λ v m. record { value = d.replaced.values v m; place = v; one = m; first = refl; second = refl });
      }

  -- of a row of the series table: the values of one tag, or none yet
  abbrev Row : List ℕ → List ℕ → Type 0
  Row a b = Put a b ⊎ ((a ≡ []) × (b ≡ []))

  row_one : {a b : List ℕ} → Put a b → (c e : List ℕ) → Row c e → same (says c) (says a) ≡ same (says e) (says b)
  row_one p c e (inl q) = put_one q p
  row_one {a} {b} p c e (inr z) = rw (z.0, z.1, says_none) (same-nothing (says a) (says b) p.value.characters)

  ids-tabled : Tabled Put Identification x y
  ids-tabled =
      let none : Row [] [] = inr (refl, refl) in
      record {
        Shows = Shown x y Row none;
        none = shown-none x y Row none;
        next = λ at v s s' st e t ex ey h q. shown-next x y Row none at v s s' st e t ex ey h (λ id. ⊎_elim (λ z. inl z.1) (λ z. absurd (z.0 id)) q);
        used = λ v s s' t h n e q. same-used x y Row none v s s' t h n e (λ id. ⊎_elim (λ z. row_one z.1) (λ z. absurd (z.0 id)) q);
        after = λ at v s s' st e t q.
            same_after at v s s' st e t (λ is. same-value (λ id. ⊎_elim (λ b. zero-not-one (cc)) (λ b. zero-not-one (cc)) is) q);
      }

  sheet-same : (ns np na : ℕ) → read_sheet x ns np na ≡ read_sheet y ns np na
  sheet-same ns np na =
      let unseen : Unseen Put = record { whole = λ r. put-unseen.whole r.value } in
      whole (sheets-same named Put Identification unseen (id-kinds Put (λ a b p. p.value)) x y ids-tabled put-replaced ns np na).0 (λ e. zero-not-one (cc))
    where
      whole : {Kept : Type 0} {o o' : Out} → SameOut Kept o o' → Kept → o ≡ o'
      whole {Kept} {o} {o'} h k =
          let e : ◌≡◌ {A = Out}
          (out o.found o.tables.series o.tables.positions o.tables.amounts)
          (out o'.found o'.tables.series o'.tables.positions o'.tables.amounts) =
          rw (h.found, h.series, h.positions, h.amounts k) in e

  -- "number, place, note and all tables are the same"
  pub renamed-same : (ns np na : ℕ) (shape : Shape) (nb : ℕ) → read_of x ns np na shape nb ≡ read_of y ns np na shape nb
  unfolding read_of
  renamed-same ns np na shape nb = rw (sheet-same ns np na)
