-- The number is that of the view's answer, and the lent numbers are as the view leaves them. Assumes nothing.
use borrow.Author.Rules.{rules}
use Rattle.numbers.proofs.Viewed.{same_view}
use Rattle.icehub.proofs.icehub_member.Statement.{statement}
use Rattle.icehub.proofs.icehub_member.Tie as tie

pub icehub_member_spec : {M : Type 1} → statement M
icehub_member_spec =
    tie.close
    (tie.spec
    (λ c κs. search rules)  -- member-numbers-requires
    (λ c κs. search rules)  -- view-number-requires
    (λ c. search rules)  -- same-length
    (λ c. (search same_view, search rules)))  -- returns
