-- The values of a tag end where the tag does. Assumes nothing.
use Prim.Native.Nat.{ℕ, ◌+◌, ◌≤◌}
use mathlib.Core.Path.{◌≡◌}
use mathlib.Core.List.{List}
use mathlib.Core.Logic.{⊎_elim}
use native.Mathlib.Omega.{arith}
use Rattle.slices.specs.declared.Span.{Span}
use Rattle.items.specs.Item.{item, item_end}
use Rattle.items.specs.declared.Item.{Item}
use Rattle.items.specs.declared.Tag.{Tag}
use Rattle.items.specs.declared.Item.TheVariants.{Start, Empty, End, Text, Comment, Unreadable}
use Rattle.digits.specs.Items.{Stands, TagLaid, Laid}
use Rattle.digits.proofs.Parts.{item-laid}
use Rattle.views.specs.Shown.{SpanInside, TagInside, ItemInside}

span-inside : (at n len : ℕ) (x : Span) → at + len ≤ 4294967295 → Stands n len x → SpanInside at x
span-inside at n len x h s = ⊎_elim (λ e. omega (arith, e.0, e.1, h)) (λ e. omega (arith, e.1, h)) s

tag-inside : (at : ℕ) (t : Tag) → at + t.len ≤ 4294967295 → TagLaid t → TagInside at t
tag-inside at t h l =
    record {
      v = on t.v l.values.v;
      coding = on t.coding l.values.coding.stands;
      version = on t.dtd.version l.values.version.stands;
      release = on t.dtd.release l.values.release.stands;
      message = on t.dtd.message l.values.message.stands;
    }
  where
    on : (x : Span) → Stands t.name t.len x → SpanInside at x
    on x s = span-inside at t.name t.len x h s

laid-inside : (at : ℕ) (x : Item) → at + item_end x ≤ 4294967295 → Laid x → ItemInside at x
unfolding Laid ItemInside
laid-inside at (Start t) h l = tag-inside at t h l
laid-inside at (Empty t) h l = tag-inside at t h l
laid-inside at (End n e) h l = tt
laid-inside at (Text w e) h l = tt
laid-inside at (Comment e) h l = tt
laid-inside at (Unreadable p) h l = tt

pub item-inside : {x : Item} (at before : ℕ) (s : List ℕ) → x ≡ item before s → at + item_end x ≤ 4294967295 → ItemInside at x
item-inside {x} at before s e h = laid-inside at x h (rw e (item-laid before s))

pub start-inside : {at : ℕ} {x : Item} {t : Tag} → x ≡ Start t → ItemInside at x → TagInside at t
unfolding ItemInside
start-inside e h = rw e at h

pub empty-inside : {at : ℕ} {x : Item} {t : Tag} → x ≡ Empty t → ItemInside at x → TagInside at t
unfolding ItemInside
empty-inside e h = rw e at h
