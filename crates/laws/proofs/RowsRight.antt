-- The rows of an accepted message are a right list of its first known type, so no member has two.
--
--   chosen_among   each row has the member of one of the slots chosen from
--   chosen_once    rows that choose from slots that differ have different members
--   rows_right, rows_once, unambiguous
use Rattle.std.specs.Prelude.{◌≡◌, List, length}
use Rattle.std.proofs.Common.{sym, ◌∙◌}
use Rattle.encoding.specs.Result.{ok}
use Rattle.encoding.proofs.MessageLaws.{top_there}
use Rattle.encoding.specs.Message.{Row}
use Rattle.encoding.specs.Write.{Slot, Chosen, chosen, left}
use Rattle.encoding.specs.Write
use Rattle.laws.specs.Demands.{read_as, All, end, more, RowsRight, Once, RowsOnce, Unambiguous}
use Rattle.laws.proofs.TableExact.{sound}
use Rattle.laws.proofs.MessageExact.{exact_message}
use Rattle.laws.proofs.RowsExact.{all_map}
use Rattle.laws.proofs.RowsMost.{rows_members}
use Rattle.laws.proofs.PlanLaws.{Pairs, alone, before, SlotsDiffer, judged_chosen, judged_within}
use Rattle.laws.proofs.PlanRules.{plan_differ}
use Rattle.laws.proofs.WriteAgain.{follows_again}

-- each row has the member of one of the slots
pub chosen_among : {P : Slot → Type 0} {ss : List Slot} {rs : List Row} → All P ss → Chosen ss rs → All (λ (r : Row). (s : Slot) × P s × (r.member ≡ s.member.row)) rs
chosen_among end Write.end = end
chosen_among (more {a = s} p L) (chosen {r = r} e C) = more {a = r} (s, p, e) (chosen_among L C)
chosen_among (more p L) (left d C) = chosen_among L C

chosen_once : {ss : List Slot} {rs : List Row} → Pairs SlotsDiffer ss → Chosen ss rs → Once rs
chosen_once alone Write.end = tt
chosen_once (before D P) (chosen e C) = (all_map (λ r A q. A.1 (sym e ∙ q ∙ A.2)) (chosen_among D C), chosen_once P C)
chosen_once (before D P) (left d C) = chosen_once P C

pub rows_right : RowsRight
rows_right T top m f p n y h =
    let A = follows_again T top m f p ((exact_message T top m f p n y).0 h).0 in
    record { order = judged_chosen A.judged; within = judged_within A.judged }

pub rows_once : RowsOnce
rows_once T top m f p n y h =
    let F = ((exact_message T top m f p n y).0 h).0 in
    let A = follows_again T top m f p F in
    (chosen_once (plan_differ T (sound T F.table) _ A.there) (judged_chosen A.judged), rows_members T (sound T F.table) top f p (top_there T top F.top_there).0 F.conforms)

pub unambiguous : Unambiguous
unambiguous T top m f g p q y F G =
    let a = (exact_message T top m f p 0 y).1 F in
    let b = (exact_message T top m g q 0 y).1 G in
    let c : ok (read_as f p) (length m) ≡ ok (read_as g q) (length m) = sym a ∙ b in
    cc
