-- The order of tags does not look at what else they say: a content over what the tags say is a content over the items that say it. Assumes nothing.
use Prim.Native.Nat.{ℕ, zero, suc, pred}
use mathlib.Core.Path.{◌≡◌, refl, sym, ap, ◌∙◌}
use mathlib.Core.List.{List, [], ◌∷◌, ◌++◌, map, map-append}
use mathlib.Core.Bool.{Bool, true, false}
use lib.ListN.{get_or, drop}
use Rattle.std.specs.Prelude.{Option, Some, None}
use Rattle.structure.specs.Rows.{name_of, start_of, end_of}
use Rattle.guideline.specs.Rows.{rows_of}
use Rattle.items.specs.Item.{item, item_end}
use Rattle.items.specs.declared.Item.{Item}
use Rattle.items.specs.declared.Item.TheVariants.{Start, Empty, End, Text, Comment, Unreadable}
use Rattle.reader.specs.Items.{Placed, items_after, items_from}
use Rattle.trees.specs.Trees.{Sign, Opens, Closes, Trees, none, element, rows_taken, spell, EachConforms, Conforms}
use Rattle.trees.specs.Cursor.{on_row, follows}
use Rattle.trees.proofs.Theorems.{complete, sound, one-tree}
use Rattle.contents.specs.Said.{TagSaid}
use Rattle.contents.specs.Spelled.{signs_by, signs_of}
use Rattle.contents.proofs.Lists.{drop-next}
use Rattle.contents.proofs.Laid.{laid, Known}
use Rattle.contents.proofs.Fill.{said_by_item, said_of, placed_by, placed_signs, saying, is_tag, Stands}

-- ---- signs with other labels

unfoldable pub relabelled : Sign Placed → Sign TagSaid
relabelled (Opens x name) = Opens (said_of x) name
relabelled (Closes name) = Closes name

on_same : (d : Option ℕ) (f g : ℕ → Bool) → ((q : ℕ) → f q ≡ g q) → on_row d f ≡ on_row d g
unfolding on_row
on_same (Some q) f g h = h q
on_same None f g h = refl

follows_said : (rows : List ℕ) (s : List (Sign Placed)) (r : ℕ) (o : Bool) → follows rows r o (map relabelled s) ≡ follows rows r o s
unfolding follows relabelled
follows_said rows [] r o = refl
follows_said rows (Opens x name ∷ s) r o =
    on_same (start_of rows r o name) (λ q. follows rows q true (map relabelled s)) (λ q. follows rows q true s) (λ q. follows_said rows s q true)
follows_said rows (Closes name ∷ s) r o =
    on_same (end_of rows r o name) (λ q. follows rows q false (map relabelled s)) (λ q. follows rows q false s) (λ q. follows_said rows s q false)

by_said : (x : Placed) (i : Item) → x.item ≡ i → signs_by i x.rest ≡ map relabelled (placed_by x i)
unfolding signs_by placed_by relabelled said_by_item
by_said x (Start t) e = rw e refl
by_said x (Empty t) e = rw e refl
by_said x (End n f) e = refl
by_said x (Text w f) e = refl
by_said x (Comment f) e = refl
by_said x (Unreadable p) e = refl

pub signs-said : (xs : List Placed) → signs_of xs ≡ map relabelled (placed_signs xs)
unfolding signs_of placed_signs
signs-said [] = refl
signs-said (x ∷ xs) =
    ap (λ (l : List (Sign TagSaid)). l ++ signs_of xs) (by_said x x.item refl)
    ∙ ap (λ (l : List (Sign TagSaid)). map relabelled (placed_by x x.item) ++ l) (signs-said xs)
    ∙ sym (map-append relabelled (placed_by x x.item) (placed_signs xs))

pub spell-said : (rows : List ℕ) (kids : Trees Placed) → spell rows (saying kids) ≡ map relabelled (spell rows kids)
unfolding spell saying relabelled
spell-said rows none = refl
spell-said rows (element q x inner after) =
    let name = name_of (get_or rows q 0) in
    ap (λ (l : List (Sign TagSaid)). Opens (said_of x) name ∷ l)
    (ap (λ (l : List (Sign TagSaid)). l ++ (Closes name ∷ spell rows (saying after))) (spell-said rows inner)
    ∙ ap (λ (l : List (Sign TagSaid)). map relabelled (spell rows inner) ++ (Closes name ∷ l)) (spell-said rows after)
    ∙ sym (map-append relabelled (spell rows inner) (Closes name ∷ spell rows after)))

-- ---- to conform

pub taken-said : (kids : Trees Placed) → rows_taken (saying kids) ≡ rows_taken kids
unfolding rows_taken saying
taken-said none = refl
taken-said (element q x inner after) = ap (λ (l : List ℕ). q ∷ l) (taken-said after)

pub each-said : (rows : List ℕ) (kids : Trees Placed) → EachConforms rows kids → EachConforms rows (saying kids)
unfolding EachConforms saying
each-said rows none c = tt
each-said rows (element q x inner after) c = (rw (taken-said inner) c.0, each-said rows inner c.1, each-said rows after c.2)

pub conforms-said : (rows : List ℕ) (p : ℕ) (kids : Trees Placed) → Conforms rows p kids → Conforms rows p (saying kids)
conforms-said rows p kids c = record { fits = rw (taken-said kids) c.fits; each = each-said rows kids c.each }

-- ---- where the items stand

-- each item stands in the document
abbrev Standing : List ℕ → List Placed → Type 0
Standing doc [] = Unit {0}
Standing doc (x ∷ xs) = (x.rest ≡ drop x.at doc) × Standing doc xs

after-standing : (doc : List ℕ) (k at : ℕ) (l : List ℕ) → l ≡ drop at doc → Standing doc (items_after k at l)
unfolding items_after
after-standing doc k at [] e = tt
after-standing doc (suc k) at (b ∷ t) e = after-standing doc k (suc at) t (drop-next doc at b t e)
after-standing doc zero at (b ∷ t) e =
    (e, after-standing doc (pred (item_end (item at (b ∷ t)))) (suc at) t (drop-next doc at b t e))

items-standing : (doc : List ℕ) (n : ℕ) → Standing doc (items_from doc n)
unfolding items_from
items-standing doc n = after-standing doc 0 n (drop n doc) refl

-- each start tag's item is a tag, and stands in the document
abbrev Labels : List ℕ → List (Sign Placed) → Type 0
Labels doc [] = Unit {0}
Labels doc (Opens x name ∷ s) = (is_tag x.item ≡ true) × (x.rest ≡ drop x.at doc) × Labels doc s
Labels doc (Closes name ∷ s) = Labels doc s

labels-both : (doc : List ℕ) (a b : List (Sign Placed)) → Labels doc (a ++ b) → Labels doc a × Labels doc b
labels-both doc [] b l = (tt, l)
labels-both doc (Opens x name ∷ a) b l = let h = labels-both doc a b l.2 in ((l.0, l.1, h.0), h.1)
labels-both doc (Closes name ∷ a) b l = labels-both doc a b l

labels-by : (doc : List ℕ) (x : Placed) (i : Item) → x.item ≡ i → x.rest ≡ drop x.at doc → (s : List (Sign Placed)) → Labels doc s
    → Labels doc (placed_by x i ++ s)
unfolding placed_by is_tag
labels-by doc x (Start t) e h s l = (rw e refl, h, l)
labels-by doc x (Empty t) e h s l = (rw e refl, h, l)
labels-by doc x (End n f) e h s l = l
labels-by doc x (Text w f) e h s l = l
labels-by doc x (Comment f) e h s l = l
labels-by doc x (Unreadable p) e h s l = l

signs-labels : (doc : List ℕ) (xs : List Placed) → Standing doc xs → Labels doc (placed_signs xs)
unfolding placed_signs
signs-labels doc [] h = tt
signs-labels doc (x ∷ xs) h = labels-by doc x x.item refl h.0 (placed_signs xs) (signs-labels doc xs h.1)

spell-stands : (doc rows : List ℕ) (kids : Trees Placed) → Labels doc (spell rows kids) → Stands doc kids
unfolding spell Stands
spell-stands doc rows none l = tt
spell-stands doc rows (element q x inner after) l =
    let h = labels-both doc (spell rows inner) (Closes (name_of (get_or rows q 0)) ∷ spell rows after) l.2 in
    (l.0, l.1, spell-stands doc rows inner h.0, spell-stands doc rows after h.1)

pub spelled-stands : (doc : List ℕ) (n : ℕ) (rows : List ℕ) (kids : Trees Placed) → placed_signs (items_from doc n) ≡ spell rows kids → Stands doc kids
spelled-stands doc n rows kids e = spell-stands doc rows kids (rw e at (signs-labels doc (items_from doc n) (items-standing doc n)))

-- ---- a content over what the tags say, and over the items

pub lift : (doc : List ℕ) (n kind : ℕ) (c : Trees TagSaid) → Known kind → signs_of (items_from doc n) ≡ spell (rows_of kind) c → Conforms (rows_of kind) 0 c
    → (kids : Trees Placed) × (saying kids ≡ c) × (placed_signs (items_from doc n) ≡ spell (rows_of kind) kids) × Conforms (rows_of kind) 0 kids × Stands doc kids
lift doc n kind c known e conforms =
    let rows = rows_of kind in
    let xs = items_from doc n in
    let w = (laid kind known).layout.well in
    let f : follows rows 0 true (placed_signs xs) ≡ true =
    sym (follows_said rows (placed_signs xs) 0 true)
    ∙ ap (λ (s : List (Sign TagSaid)). follows rows 0 true s) (sym (signs-said xs) ∙ e)
    ∙ complete TagSaid rows w c conforms in
    let k = sound Placed rows w (placed_signs xs) f in
    let kids = k.0 in
    let same : spell rows (saying kids) ≡ spell rows c =
    spell-said rows kids ∙ ap (map relabelled) (sym k.2) ∙ sym (signs-said xs) ∙ e in (
      kids,
      one-tree TagSaid rows w (saying kids) c (conforms-said rows 0 kids k.1) conforms same,
      k.2,
      k.1,
      spelled-stands doc n rows kids k.2,
    )
