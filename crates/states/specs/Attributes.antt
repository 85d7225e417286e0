-- What a row asks of a tag's attributes and of their values.
use Rattle.std.specs.Prelude.{ℕ, ◌-◌, List, Bool, true, false, cond, leb, eqb}
use Rattle.refusals.specs.Refusals.{no_refusal, against_form, outside_list}
use Rattle.characters.specs.Says.{says}
use Rattle.slices.specs.Part.{part_of}
use Rattle.slices.specs.Same.{same}
use Rattle.slices.specs.declared.Span.{Span}
use Rattle.tags.specs.declared.Dtd.{Dtd}
use Rattle.items.specs.declared.Tag.{Tag}
use Rattle.trims.specs.Trim.{dropped}
use Rattle.codes.specs.Lists.{listed, codes_of}
use Rattle.guideline.specs.Kinds.{dtd_version, dtd_release, dtd_message, no_demands, kind_at, fixed_for}
use Rattle.guideline.specs.declared.Demand.{Demand}
use Rattle.guideline.specs.declared.Demand.TheVariants.{NotKnown, Asked, Optional}
use Rattle.guideline.specs.declared.Demands.{Demands}
use Rattle.rules.specs.Rules.{judge, refused}
use Rattle.rules.specs.declared.Held.{Held}
use Rattle.rules.specs.Judged.{Judged}
use Rattle.columns.specs.Columns.{form_of, collapsed, scheme_of, role_of, no_form, no_scheme, by_list, root_role}

-- an attribute is there, which is known by where its value starts
unfoldable pub there : Span → Bool
there x = cond (eqb x.start 0) false true

unfoldable pub agree : Bool → Bool → Bool
agree wanted given = cond wanted given (cond given false true)

unfoldable pub asks_v : ℕ → Bool
asks_v w = cond (eqb (form_of w) no_form) false true

unfoldable pub asks_scheme : ℕ → Bool
asks_scheme w = cond (eqb (scheme_of w) no_scheme) false true

-- of the attributes that a root may have: on the root what its kind asks, and elsewhere none is known
unfoldable pub demands_at : ℕ → ℕ → Demands
demands_at kind w = cond (eqb (role_of w) root_role) (kind_at kind).dtd no_demands

-- an attribute that is optional may be there or not, one that is asked for is, and any other is not
unfoldable pub meets : Demand → Bool → Bool
meets Optional given = true
meets Asked given = agree true given
meets NotKnown given = agree false given

unfoldable pub dtd_fits : Demands → Dtd → Bool
dtd_fits demands d =
    cond (meets demands.version (there d.version))
    (cond (meets demands.release (there d.release))
    (meets demands.message (there d.message)) false) false

-- no other attribute but, on the root, those that are passed over
unfoldable pub no_others : ℕ → Bool → Bool → Bool
no_others w others passable = cond others (cond (eqb (role_of w) root_role) passable false) true

-- "5: attribute missing or unknown": those of the row are there, and no others
unfoldable pub attributes_fit : ℕ → ℕ → Tag → Bool
attributes_fit kind w t =
    cond (agree (asks_v w) (there t.v))
    (cond (agree (asks_scheme w) (there t.coding))
    (cond (dtd_fits (demands_at kind w) t.dtd)
    (no_others w t.others t.passable) false) false) false

-- "Where the guideline says collapse, leading and trailing spaces are dropped; where it says preserve, or says nothing, none are."
unfoldable pub said_in : ℕ → Span → List ℕ → List ℕ
said_in w x s = cond (collapsed w) (dropped (says (part_of s x.start x.len))) (says (part_of s x.start x.len))

-- codingScheme, which is collapsed in every row that has it: 7 outside its code list
unfoldable pub scheme_refusal : ℕ → Span → List ℕ → ℕ
scheme_refusal w x s =
    cond (eqb (scheme_of w) no_scheme) no_refusal (cond (listed (codes_of (scheme_of w - by_list)) (dropped (says (part_of s x.start x.len)))) no_refusal outside_list)

-- "where it has several, the smallest number"; 0 is none
unfoldable pub least : ℕ → ℕ → ℕ
least a b = cond (eqb a no_refusal) b (cond (eqb b no_refusal) a (cond (leb a b) a b))

unfoldable pub also_scheme : ℕ → Judged → Judged
also_scheme n j = record { number = least j.number n; first = j.first; second = j.second }

-- an attribute of the root that is there has its fixed value, of which nothing is dropped
unfoldable pub value_fixed : ℕ → ℕ → Span → List ℕ → Bool
value_fixed kind attribute x s = cond (there x) (same (fixed_for kind attribute) (says (part_of s x.start x.len))) true

unfoldable pub dtd_fixed : ℕ → Dtd → List ℕ → Bool
dtd_fixed kind d s =
    cond (value_fixed kind dtd_version d.version s)
    (cond (value_fixed kind dtd_release d.release s)
    (value_fixed kind dtd_message d.message s) false) false

-- the values of a tag: the fixed ones on the root; `v` and codingScheme elsewhere
unfoldable pub judge_tag : ℕ → Tag → Held → List ℕ → Judged
judge_tag w t h s =
    cond (eqb (role_of w) root_role) (cond (dtd_fixed h.kind t.dtd s) (refused no_refusal) (refused against_form))
    (cond (eqb (form_of w) no_form) (refused no_refusal)
    (also_scheme (scheme_refusal w t.coding s) (judge (form_of w) h (said_in w t.v s))))
