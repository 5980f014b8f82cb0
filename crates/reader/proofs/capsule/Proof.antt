-- The judgements in their order. Assumes nothing.
use Rattle.reader.proofs.Bodies.{capsule_none, capsule_low, capsule_other, capsule_new, capsule_version, capsule_class, capsule_barred, capsule_old}
use borrow.Author.Rules.{rules}
use Rattle.reader.proofs.capsule.Statement.{statement}
use Rattle.reader.proofs.capsule.Tie as tie

pub capsule_spec : {M : Type 1} → statement M
capsule_spec =
    tie.close
    (tie.spec
    (λ c. search capsule_none)  -- returns
    (λ c κs. search rules)  -- int-at-requires
    (λ c. search capsule_low)  -- returns_2
    (λ c. search capsule_other)  -- returns_3
    (λ c κs. search rules)  -- short-at-requires
    (λ c. search capsule_new)  -- returns_4
    (λ c. search capsule_version)  -- returns_5
    (λ c. search capsule_class)  -- returns_6
    (λ c κs. (search rules, search rules))  -- barred-requires
    (λ c. search capsule_barred)  -- returns-7
    (λ c. search capsule_old))  -- returns-8
