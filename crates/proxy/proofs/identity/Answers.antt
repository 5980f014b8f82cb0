-- An identity: two strings, then the judgement by their lengths.
use borrow.Author.Rules.{rules}
use Rattle.proxy.proofs.Laws.{name_end, category_took, category_bad, identity_is, identity_less, identity_nil, identity_bad, identity_none}
use Rattle.proxy.proofs.identity.Goals.{then-name-eq0+else-category-gt-NO_NAME, else-name-eq0}
use Rattle.proxy.proofs.identity.Goals as goal

pub returns-in_err-name : goal.returns-in_err-name
returns-in_err-name c = search (rules, identity_none, c.in_err-name.was)

pub slice_bounds-read_string-count : goal.slice_bounds-read_string-count
slice_bounds-read_string-count c = search (rules, name_end, c.in_ok-name.was)

pub slice_bounds-read_string-start : goal.slice_bounds-read_string-start
slice_bounds-read_string-start c = search (rules, name_end, c.in_ok-name.was)

pub behind-requires : goal.behind-requires
behind-requires c = search (rules, category_bad, c.in_ok-name.was)

pub returns-in-Err : goal.returns-in-Err
returns-in-Err c = rw c.behind.ensures (search (rules, identity_bad, c.in_ok-name.was))

pub returns-then-category-gt-NO_NAME : goal.returns-then-category-gt-NO_NAME
returns-then-category-gt-NO_NAME c = search (rules, identity_less, c.in_ok-name.was)

pub overflow_add-result : goal.overflow_add-result
overflow_add-result c = search (rules, category_took, c.in_ok-name.was)

pub returns : goal.returns
returns c =
    elim c.if-name-eq0.branch [
      | then-name-eq0+else-category-gt-NO_NAME w ↦ search (rules, identity_nil, c.in_ok-name.was)
      | else-name-eq0 w ↦ search (rules, identity_is, c.in_ok-name.was)
    ]
