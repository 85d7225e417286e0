-- Writing again what was read back from a written document.
use Rattle.std.specs.Prelude.{ℕ, ◌≡◌, List, true}
use Rattle.escapes.specs.Spelled.{chars_of, unescaped}
use Rattle.guideline.specs.Rows.{rows_of}
use Rattle.views.specs.Shown.{pair_view}
use Rattle.reader.specs.Answer.{Outcome}
use Rattle.drafts.specs.Draft.{Draft}
use Rattle.drafts.specs.Pairs.{has_pair}
use Rattle.writings.specs.Back.{ends_dropped, EachValue}

-- pair k of a draft has what pair k of the views t shows of the document, unescaped
pub record ValueFrom (g : Draft) (doc t : List ℕ) (k : ℕ) : Type 0 where
  pub there : has_pair g.pairs k ≡ has_pair t k
  pub text : has_pair t k ≡ true → pair_view g.text g.pairs k ≡ unescaped (pair_view doc t k)

-- a draft of what the reader answered and left in its tables, and of what the views show
pub record MadeOf (g : Draft) (doc : List ℕ) (o : Outcome) (t : List ℕ) : Type 0 where
  pub kind : g.kind ≡ o.answer.kind
  pub count : g.count ≡ o.answer.series
  pub series : g.series ≡ o.tables.series
  pub positions : g.positions ≡ o.tables.positions
  pub amounts : g.amounts ≡ o.tables.amounts
  pub values : EachValue (rows_of g.kind) g.count (λ k drops. ValueFrom g doc t k)

-- no text of a draft has spaces at a collapsed end
abbrev pub NoneDropped : Draft → Type 0
NoneDropped d =
    EachValue (rows_of d.kind) d.count
    (λ k drops. has_pair d.pairs k ≡ true → ends_dropped drops (chars_of (pair_view d.text d.pairs k)) ≡ chars_of (pair_view d.text d.pairs k))
