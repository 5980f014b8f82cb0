-- What is planned for a change of a message, as the code computes it, and what a plan has to do with the definition.
--
--   is_part, compact_plan   a view that shows a part; the refusal of a compact record
--   fresh_form             3 and 21 of the new bytes
--   cut_at, at_spot, at_slot, located_plan    the exchange at a gap; with 50; in a list or a slice; in the members of owner o
--   sliced_plan            3 and 21, then the exchange
--   content_of             bytes to set, or none to remove
--   Planned o m b p       plan p is what o says: the message m with bytes exchanged for b, or a refusal
--   Ripe                  the same as a record
--   PlanFits              what a plan asks before it is carried out
--   PlannedFor            `Planned` for an accepted message with this first known type and format
use Rattle.std.specs.Prelude.{◌≡◌, Bool, true, false, ◌&&◌, ◌||◌, not, List, ℕ, ◌+◌, ◌-◌, ◌≤◌, ◌<◌, length, take, drop, eqb, ltb}
use Rattle.std.proofs.Math.Option.{Option, none, some}
use Rattle.encoding.specs.Result.{ok, pick}
use Rattle.encoding.specs.Number.{Bytes}
use Rattle.encoding.specs.Types.{Ty, form_of}
use Rattle.encoding.specs.Table.{kind, tag, member_ty, trees}
use Rattle.shapes.specs.Shapes.{form_number}
use Rattle.encoding.specs.Value.{exact}
use Rattle.encoding.specs.Message.{Pieces, Encoding, encoding_number, rules, first_known}
use Rattle.encoding.specs.Write.{Out, out, stop}
use Rattle.laws.specs.Demands.{read_as}
use Rattle.view.specs.declared.View.{View}
use Rattle.view.specs.declared.View.TheVariants.{Part, Fallback, Nothing, Refused}
use Rattle.edit.specs.Change.{changed}
use Rattle.edit.specs.Place.{Gap, gap_in, flagged, has_marker, cut_end}
use Rattle.seek.specs.declared.Slot.{Slot}
use Rattle.seek.specs.declared.Slot.TheVariants.{List as InList, At, Nothing as NoSlot}
use Rattle.seek.specs.Located.{slot_in}
use Rattle.splice.specs.declared.Cut.{Cut}
use Rattle.splice.specs.Spliced.{spliced, Shaped}
use Rattle.change.specs.declared.Plan.{Plan}
use Rattle.change.specs.declared.Plan.TheVariants.{Make, Stop}

unfoldable pub is_part : View → Bool
is_part (Part p n) = true
is_part Fallback = false
is_part Nothing = false
is_part (Refused c p) = false

unfoldable pub compact_plan : Bool → Bool → Plan
compact_plan setting listed = pick (setting || listed) (Stop 51 0) (Stop 50 0)

unfoldable pub fresh_form : Bool → Ty → List ℕ → ℕ
fresh_form setting t b = pick setting (pick (ltb 65536 (length b)) 3 (pick (exact t b) 0 21)) 0

-- the exchange at a gap of members that begin at place a; flags, size and end are those of their slice, 0 of a parameter list
unfoldable pub cut_at : ℕ → ℕ → ℕ → ℕ → Gap → ℕ → ℕ → Bool → Cut
cut_at f s e a g t form setting = record {
  flags = f;
  size = s;
  end = e;
  from = a + g.from;
  to = a + pick (ltb 0 e) (cut_end setting g) g.to;
  tag = t;
  form = form;
  setting = setting;
  flagged = flagged setting g;
  marker = ltb 0 e && has_marker setting g;
}

unfoldable pub at_spot : ℕ → ℕ → ℕ → ℕ → Gap → ℕ → ℕ → Bool → Plan
at_spot f s e a g t form setting = pick (not setting && eqb g.from g.to) (Stop 50 0) (Make (cut_at f s e a g t form setting))

unfoldable pub at_slot : List ℕ → ℕ → List ℕ → ℕ → ℕ → Bool → Slot → Plan
at_slot T o m t form setting InList = at_spot 0 0 0 6 (gap_in T o t (drop 6 m)) t form setting
at_slot T o m t form setting (At f s e) = at_spot f s e (s + 4) (gap_in T o t (take (e - (s + 4)) (drop (s + 4) m))) t form setting
at_slot T o m t form setting NoSlot = Stop 49 0

unfoldable pub located_plan : List ℕ → ℕ → ℕ → List ℕ → ℕ → ℕ → Bool → Plan
located_plan T k o m t form setting = at_slot T o m t form setting (slot_in T k o m)

-- 3 and 21 of the new bytes of member row n, then the exchange
unfoldable pub sliced_plan : List ℕ → ℕ → ℕ → List ℕ → ℕ → Bool → List ℕ → Plan
sliced_plan T top o m n setting b =
    let ty = member_ty T (trees T) n in
    pick (eqb (fresh_form setting ty b) 0) (located_plan T (kind T top) o m (tag T n) (form_number (form_of ty)) setting) (Stop (fresh_form setting ty b) 0)

unfoldable pub content_of : Bool → List ℕ → Option (List ℕ)
content_of true b = some b
content_of false b = none

-- a plan that is made has its places in order; a refusal's numbers are small
abbrev pub Planned : Out (List ℕ) → List ℕ → List ℕ → Plan → Type 0
Planned o m b (Make c) = (o ≡ out (spliced c m b)) × Shaped (length m) c × (length b ≤ 65536)
Planned o m b (Stop n p) = (o ≡ stop n p) × (n < 4294967296) × (p < 4294967296)

-- the same as a record, which a proof can name
pub record Ripe (o : Out (List ℕ)) (m b : List ℕ) (p : Plan) : Type 0 where
  pub planned : Planned o m b p

-- of a message that is accepted, with this first known type and format
abbrev pub PlannedFor : List ℕ → ℕ → ℕ → ℕ → List ℕ → ℕ → Bool → List ℕ → Plan → Type 0
PlannedFor T top first format m member setting b p =
    Bytes m → (setting ≡ false → length b ≤ 65536) → (e : Encoding) (ps : Pieces) (n : ℕ) → rules T top m ≡ ok (read_as e ps) n → first ≡ first_known T top ps → format ≡ encoding_number e
    → Planned (changed T top member (content_of setting b) (rules T top m)) m b p

-- what a plan asks before it is carried out: its places in order, its bytes few; a refusal's numbers small
abbrev pub PlanFits : ℕ → ℕ → Plan → Type 0
PlanFits l n (Make c) = Shaped l c × (n ≤ 65536)
PlanFits l n (Stop c p) = (c < 4294967296) × (p < 4294967296)
