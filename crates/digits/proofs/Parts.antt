-- Where the parts of an item stand, and which of them are the same where its `v` is another. Assumes nothing.
use Prim.Native.Nat.{ℕ, suc, ◌+◌, ◌≤◌, ◌<◌}
use mathlib.Core.Path.{◌≡◌, refl}
use mathlib.Core.Bool.{true, false}
use mathlib.Core.List.{List, [], ◌∷◌}
use mathlib.Core.Logic.{◌⊎◌, inl, inr, ⊎_elim}
use native.Mathlib.Omega.{arith}
use lib.Dec.{eqb, ltb, leb}
use lib.ListN.{length, take, drop}
use Rattle.lists.proofs.Cases.{bool_cases, by_cond, never}
use Rattle.slices.specs.Bytes.{byte}
use Rattle.slices.specs.Run.{run}
use Rattle.slices.specs.Same.{same, first_at}
use Rattle.slices.specs.Text.{text}
use Rattle.characters.specs.Says.{all_chars}
use Rattle.attributes.specs.Names.{name_start, name_byte, white}
use Rattle.slices.specs.Part.{part_of}
use Rattle.slices.proofs.Bytes.{byte-drop}
use Rattle.tags.specs.Known.{absent, dtd_name, no_dtd, with_dtd, none_known, with_attribute}
use Rattle.tags.specs.Tail.{Attr, Ends, closed, torn, ends, kept_of, twice}
use Rattle.slices.specs.declared.Span.{Span}
use Rattle.tags.specs.declared.Dtd.{Dtd}
use Rattle.tags.specs.declared.Known.{Known}
use Rattle.items.specs.Comment.{comment_to, comment}
use Rattle.items.specs.Text.{text_to, text_item}
use Rattle.items.specs.Item.{tag_of, tag_item, start_tag, end_tag, end_name, end_close, comment_item, comment_tag, item}
use Rattle.items.specs.declared.Tag.{Tag}
use Rattle.items.specs.declared.Item.TheVariants.{End}
use Rattle.digits.specs.Items.{InSpan, Stands, IsTag, Beside, ValuesLaid, TagLaid, Laid, value_in, PartsSame}
use Rattle.characters.proofs.Low.{by-test}
use Rattle.slices.proofs.Near.{part-near}
use Rattle.digits.proofs.Spans.{Within, ends-ordered}

-- what is kept of the attributes up to the place `to` of a tag whose name has n bytes
abbrev Kept : ℕ → ℕ → Known → Type 0
Kept n to k = ValuesLaid n to k.v k.coding k.dtd

stands_on : (n to more : ℕ) (x : Span) → to ≤ more → Stands n to x → Stands n more x
stands_on n to more x h (inl e) = inl e
stands_on n to more x h (inr e) = inr (e.0, omega (arith, e.1))

-- no place of a value stands behind it
ended : (n to : ℕ) (x : Span) → Stands n to x → (i : ℕ) → InSpan i x → i < to
ended n to x (inl e) i h = omega (arith, h.1, h.0, e.0, e.1)
ended n to x (inr e) i h = omega (arith, h.1, e.1)

-- one more value a, behind `from`
module _ (n from : ℕ) (k : Known) (name : List ℕ) (a : Span) (low : 1 + n ≤ from) (h : from + 2 < a.start) (r : Kept n (suc from) k) where
  new : Stands n (suc (a.start + a.len)) a
  new = inr (omega arith, omega arith)

  old : (x : Span) → Stands n (suc from) x → Stands n (suc (a.start + a.len)) x
  old x s = stands_on n (suc from) (suc (a.start + a.len)) x (omega arith) s

  apart : (x : Span) → Stands n (suc from) x → (i : ℕ) → InSpan i a → InSpan i x → ⊥
  apart x s i p q = let e = ended n (suc from) x s i q in omega (arith, p.0, e)

  -- another value stays where it was, beside the old `v` or beside a
  kept : (y : Span) → Beside n (suc from) k.v y → Beside n (suc (a.start + a.len)) k.v y
  kept y b = record { stands = old y b.stands; apart = b.apart }

  beside : (y : Span) → Beside n (suc from) k.v y → Beside n (suc (a.start + a.len)) a y
  beside y b = record { stands = old y b.stands; apart = apart y b.stands }

  -- a stands beside the old `v`
  added : Beside n (suc (a.start + a.len)) k.v a
  added = record { stands = new; apart = λ i p q. apart k.v r.v i q p }

  noted-kept : Kept n (suc (a.start + a.len)) (with_attribute k name a)
  unfolding with_attribute with_dtd
  noted-kept =
      by_cond P (same name (text "v"))
      (record { v = new; coding = beside k.coding r.coding; version = beside k.dtd.version r.version; release = beside k.dtd.release r.release; message = beside k.dtd.message r.message })
      (by_cond P (same name (text "codingScheme"))
      (with-dtd a added k.dtd version release message)
      (by_cond P (dtd_name name)
      (by_cond D (same name (text "DtdVersion"))
      (with-dtd k.coding coding (record { version = a; release = k.dtd.release; message = k.dtd.message }) added release message)
      (by_cond D (same name (text "DtdRelease"))
      (with-dtd k.coding coding (record { version = k.dtd.version; release = a; message = k.dtd.message }) version added message)
      (with-dtd k.coding coding (record { version = k.dtd.version; release = k.dtd.release; message = a }) version release added)))
      (with-dtd k.coding coding k.dtd version release message)))
    where
      to : ℕ
      to = suc (a.start + a.len)

      P : Known → Type 0
      P = Kept n to

      D : Dtd → Type 0
      D d = ValuesLaid n to k.v k.coding d

      coding : Beside n to k.v k.coding
      coding = kept k.coding r.coding

      version : Beside n to k.v k.dtd.version
      version = kept k.dtd.version r.version

      release : Beside n to k.v k.dtd.release
      release = kept k.dtd.release r.release

      message : Beside n to k.v k.dtd.message
      message = kept k.dtd.message r.message

      with-dtd : (y : Span) → Beside n to k.v y → (d : Dtd) → Beside n to k.v d.version → Beside n to k.v d.release → Beside n to k.v d.message
          → ValuesLaid n to k.v y d
      with-dtd y c d x z m = record { v = old k.v r.v; coding = c; version = x; release = z; message = m }

keep-kept : (n from to : ℕ) (k : Known) (more : List Attr) → 1 + n ≤ from → from < to → Within from to more → Kept n (suc from) k → Kept n to (kept_of k more)
unfolding kept_of Within
keep-kept n from to k [] l h w r =
    record {
      v = stands_on n (suc from) to k.v h r.v;
      coding = on k.coding r.coding;
      version = on k.dtd.version r.version;
      release = on k.dtd.release r.release;
      message = on k.dtd.message r.message;
    }
  where
    on : (y : Span) → Beside n (suc from) k.v y → Beside n to k.v y
    on y b = record { stands = stands_on n (suc from) to y h b.stands; apart = b.apart }
keep-kept n from to k (a ∷ more) l h w r =
    keep-kept n (a.value.start + a.value.len) to (with_attribute k a.name a.value) more (omega (arith, w.0)) w.1 w.2
    (noted-kept n from k a.name a.value l w.0 r)

none_kept : (n to : ℕ) → Kept n to none_known
unfolding none_known no_dtd absent
none_kept n to = record { v = inl (refl, refl); coding = off; version = off; release = off; message = off }
  where
    off : Beside n to (record { start = 0; len = 0 }) (record { start = 0; len = 0 })
    off = record { stands = inl (refl, refl); apart = λ i p q. omega (arith, p.1) }

-- a name has a byte
start-name : (b : ℕ) → name_start b ≡ true → name_byte b ≡ true
unfolding name_start name_byte
start-name b e =
    ⊎_elim
    (λ (t : leb 0x61 b ≡ true). rw t (rw t at e))
    (λ (t : leb 0x61 b ≡ false).
    ⊎_elim
    (λ (u : leb 0x41 b ≡ true). rw (t, u) (rw (t, u) at e))
    (λ (u : leb 0x41 b ≡ false). never (rw (t, u) at e))
    (bool_cases (leb 0x41 b)))
    (bool_cases (leb 0x61 b))

name-some : (l : List ℕ) → name_start (byte l 0) ≡ true → 0 < run name_byte l
unfolding run byte name_start
name-some [] e = never e
name-some (b ∷ l) e = rw (start-name b e) (omega arith)

module _ (before : ℕ) (s : List ℕ) where
  ends-laid : (n : ℕ) (x : Ends) → 0 < n → ends s (1 + n) ≡ x → Laid (tag_item before n x)
  unfolding tag_item tag_of ends Laid
  ends-laid n torn z q = tt
  ends-laid n (closed more empty e) z q = by_cond Laid (twice more) tt (by_cond Laid empty laid laid)
    where
      laid : TagLaid (tag_of n (kept_of none_known more) e)
      laid =
          let o = ends-ordered (drop (1 + n) s) 0 (1 + n) more empty e q in
          let k = keep-kept n (1 + n + 0) e none_known more (omega arith) o.end o.values (none_kept n _) in
          record { some = z; name = omega (arith, o.end); values = k }

  start-laid : Laid (start_tag before s)
  unfolding start_tag Laid
  start-laid =
      by-test Laid (name_start (byte s 1)) (λ z. ends-laid _ _ (name-some (drop 1 s) (rw (byte-drop s 1 0) z)) refl) (λ z. tt)

  end-laid : Laid (end_tag before s)
  unfolding end_tag end_name end_close Laid
  end-laid =
      let n = run name_byte (drop 2 s) in
      by_cond Laid (name_start (byte s 2)) (by_cond Laid (eqb (byte s (2 + n + run white (drop (2 + n) s))) 0x3E) (omega arith) tt) tt

  reach-laid : (l : List ℕ) → Laid (comment_item before (comment l))
  unfolding comment comment_to comment_item Laid
  reach-laid l =
      let n = first_at (text "--") l in
      by_cond (λ x. Laid (comment_item before x)) (eqb (byte l (n + 2)) 0x3E) (by_cond (λ x. Laid (comment_item before x)) (all_chars (take n l)) tt tt) tt

  comment-laid : Laid (comment_tag before s)
  unfolding comment_tag Laid
  comment-laid = by_cond Laid (eqb (byte s 2) 0x2D) (by_cond Laid (eqb (byte s 3) 0x2D) (reach-laid (drop 4 s)) tt) tt

  text-laid : (n : ℕ) → Laid (text_to before s n)
  unfolding text_to Laid
  text-laid n =
      by_cond Laid (eqb n 0) tt
      (by_cond Laid (eqb (run white s) n) tt
      (by_cond Laid (all_chars (take n s))
      (by_cond Laid (ltb (first_at (text "&") (take n s)) n) tt (by_cond Laid (ltb (first_at (text "]]>") (take n s)) n) tt tt))
      tt))

  pub item-laid : Laid (item before s)
  unfolding item text_item
  item-laid =
      by_cond Laid (eqb (byte s 0) 0x3C)
      (by_cond Laid (eqb (byte s 1) 0x2F) end-laid (by_cond Laid (eqb (byte s 1) 0x21) comment-laid start-laid))
      (text-laid (first_at (text "<") s))

-- ---- the same parts, where another value stands in `v`

-- a value whose bytes are the same
value_same : (t : Tag) (x : Span) (s s' : List ℕ) → Stands t.name t.len x → length s ≡ length s'
    → ((i : ℕ) → i < t.len → InSpan i x → byte s i ≡ byte s' i) → value_in s x ≡ value_in s' x
value_same t x s s' stands long h = part-near s s' x.start x.len long (λ i p q. h i (ended t.name t.len x stands i (p, q)) (p, q))

module _ (t : Tag) (laid : TagLaid t) (s s' : List ℕ) (long : length s ≡ length s')
    (h : (i : ℕ) → i < t.len → (byte s i ≡ byte s' i) ⊎ InSpan i t.v) where
  other : (x : Span) → Beside t.name t.len t.v x → value_in s x ≡ value_in s' x
  other x b = value_same t x s s' b.stands long (λ i p q. ⊎_elim (λ e. e) (λ e. absurd (b.apart i e q)) (h i p))

  behind : (i : ℕ) → i < 1 + t.name → InSpan i t.v → ⊥
  behind i p e = ⊎_elim (λ z. omega (arith, z.0, z.1, e.1)) (λ z. omega (arith, z.0, e.0)) laid.values.v

  parts : PartsSame t s s'
  parts =
      record {
        name = part-near s s' 1 t.name long (λ i p q. ⊎_elim (λ e. e) (λ e. absurd (behind i q e)) (h i (omega (arith, laid.name))));
        coding = other t.coding laid.values.coding;
        version = other t.dtd.version laid.values.version;
        release = other t.dtd.release laid.values.release;
        message = other t.dtd.message laid.values.message;
      }

module _ (before : ℕ) (s : List ℕ) (t : Tag) (is : IsTag (item before s) t) where
  pub tag-laid : TagLaid t
  unfolding Laid
  tag-laid = ⊎_elim (λ e. rw e at (item-laid before s)) (λ e. rw e at (item-laid before s)) is

  -- what a tag says besides its `v`
  pub tag-parts : (s' : List ℕ) → length s ≡ length s' → ((i : ℕ) → i < t.len → (byte s i ≡ byte s' i) ⊎ InSpan i t.v) → PartsSame t s s'
  tag-parts s' long h = parts t tag-laid s s' long h

  -- where its bytes are the same, its `v` is the same too
  pub tag-v : (s' : List ℕ) → length s ≡ length s' → ((i : ℕ) → i < t.len → byte s i ≡ byte s' i) → value_in s t.v ≡ value_in s' t.v
  tag-v s' long h = value_same t t.v s s' tag-laid.values.v long (λ i p q. h i p)

-- the name of an end tag
pub end-name : (before : ℕ) (s s' : List ℕ) (n e : ℕ) → item before s ≡ End n e → length s ≡ length s' → ((i : ℕ) → i < e → byte s i ≡ byte s' i)
    → part_of s 2 n ≡ part_of s' 2 n
unfolding Laid
end-name before s s' n e q long h =
    let l : 2 + n < e = rw q at (item-laid before s) in part-near s s' 2 n long (λ i p u. h i (omega arith))
