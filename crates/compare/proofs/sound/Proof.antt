-- The tops, then the differences. Assumes nothing.
use Rattle.compare.proofs.Telling.{top_inside, sound_old, kept_old, sound_new, kept_new, sound_whole, listed_whole}
use borrow.Author.Rules.{rules}
use Rattle.compare.proofs.sound.Statement.{statement}
use Rattle.compare.proofs.sound.Tie as tie

pub sound_spec : {M : Type 1} → statement M
sound_spec =
    tie.close
    (tie.spec
    (λ c κs. search rules)  -- types-at-requires
    (λ c κs. search rules)  -- types-at-requires-2
    (λ c κs. search rules)  -- no-top-requires
    (λ c κs. search rules)  -- refused-requires
    (λ c. (search sound_old, search kept_old))  -- returns
    (λ c κs. search rules)  -- no-top-requires-2
    (λ c κs. search rules)  -- refused-requires-2
    (λ c. (search sound_new, search kept_new))  -- returns_2
    (λ c κs. (search rules, (search rules, search rules, search top_inside, search top_inside)))  -- whole-requires
    (λ c. search rules)  -- same-length
    (λ c. (search sound_whole, search listed_whole)))  -- returns_3
