-- What is read of a proxy lies within it, and every refusal of it has a small number. Assumes nothing.
--
--   held_..          what is read before the endpoints
--   Few              at most 27
--   few_..           the refusals of a proxy, of what is read before its endpoints, of its endpoints
use Rattle.std.specs.Prelude.{false, ◌&&◌, ℕ, zero, suc, ◌≤◌, length, eqb, ltb}
use Rattle.std.proofs.Common.{arith}
use Rattle.encoding.specs.Result.{Parser, pick, pure, skip, must, times}
use Rattle.encoding.proofs.ResultLaws.{Held, held_bind, held_pure, held_pick, held_skip, held_must, held_mapc, held_times}
use Rattle.encoding.specs.Number.{byte, bool, bool_form, size, string}
use Rattle.encoding.proofs.NumberLaws.{held_size}
use Rattle.encoding.proofs.ValueLaws.{held_text, held_identity}
use Rattle.encoding.specs.Proxy.{identity_form, identity, facet_form, text, facets, mode_form, endpoint, endpoints, versions, reference, proxy}
use Rattle.proxy.specs.Parts.{named}
use Rattle.locate.specs.Locate.{counted, referenced, generals}
use Rattle.endpoint.proofs.RefusalLaws.{Refuses, Judged, refuses_bind, refuses_pure, refuses_pick, pick_judges, refuses_must, refuses_mapc, refuses_chunk, refuses_number, refuses_bool, refuses_size, refuses_string, refuses_endpoint}

-- ---- within the input

pub held_facets : Held facets
unfolding facets
held_facets = held_bind (must facet_form size) (λ n. times n text) (held_must size held_size facet_form) λ n. held_times n text held_text

pub held_counted : Held counted
unfolding counted
held_counted = held_bind (skip 6) (λ _. size) (held_skip 6) λ _. held_size

pub held_referenced : Held referenced
unfolding referenced
held_referenced = held_bind facets (λ _. counted) held_facets λ _. held_counted

pub held_named : Held named
unfolding named
held_named = held_mapc identity held_identity (λ (l : ℕ × ℕ) _. l.0)

pub held_generals : Held generals
unfolding generals
held_generals = held_bind named (λ n. pick (eqb n 0) (pure 0) referenced) held_named λ n. held_pick (eqb n 0) (pure 0) referenced (held_pure 0) held_referenced

-- ---- the numbers

abbrev pub Few : ℕ → Type 0
Few c = c ≤ 27

few_size : Refuses Few size
few_size = refuses_size Few (omega arith) (omega arith)

few_string : Refuses Few string
few_string = refuses_string Few (omega arith) (omega arith) (omega arith)

few_skip : (k : ℕ) → Refuses Few (skip k)
unfolding skip
few_skip k = refuses_chunk Few (omega arith) k (λ _. tt)

few_times : (n : ℕ) (p : Parser (Unit {0})) → Refuses Few p → Refuses Few (times n p)
unfolding times
few_times zero p P = refuses_pure Few tt
few_times (suc n) p P = refuses_bind Few p (λ _. times n p) P (λ _. few_times n p P)

few_text : Refuses Few text
unfolding text
few_text = refuses_mapc Few string few_string (λ _ _. tt)

identity_judges : (l : ℕ × ℕ) → Judged Few (identity_form l)
unfolding identity_form
identity_judges l = pick_judges Few (eqb l.0 0 && ltb 0 l.1) 10 0 (omega arith) tt

few_identity : Refuses Few identity
unfolding identity
few_identity = refuses_must Few _ (refuses_bind Few _ _ few_string λ n. refuses_mapc Few string few_string (λ c _. (length n, length c))) identity_form identity_judges

facet_judges : (n : ℕ) → Judged Few (facet_form n)
unfolding facet_form
facet_judges n = pick_judges Few (ltb n 2) 0 10 tt (omega arith)

few_facets : Refuses Few facets
unfolding facets
few_facets = refuses_bind Few _ _ (refuses_must Few size few_size facet_form facet_judges) λ n. few_times n text few_text

pub few_endpoint : Refuses Few endpoint
few_endpoint = refuses_endpoint Few (omega arith) (omega arith)

pub few_endpoint_list : (n : ℕ) → Refuses Few (times n endpoint)
few_endpoint_list n = few_times n endpoint few_endpoint

mode_judges : (n : ℕ) → Judged Few (mode_form n)
unfolding mode_form
mode_judges n = pick_judges Few (ltb n 5) 0 10 tt (omega arith)

few_reference : Refuses Few (reference false)
unfolding reference bool versions endpoints byte
few_reference =
    refuses_bind Few _ _ few_facets λ _. refuses_bind Few _ _ (refuses_must Few _ (refuses_number Few (omega arith) 1) mode_form mode_judges) λ _.
    refuses_bind Few _ _ (refuses_mapc Few _ (few_flag) (λ _ _. tt)) λ _. refuses_bind Few _ _ (few_times 4 (skip 1) (few_skip 1)) λ _.
    refuses_bind Few _ _ few_size λ n. refuses_pick Few (eqb n 0) text (times n endpoint) few_text (few_endpoint_list n)
  where
    few_flag : Refuses Few (must bool_form byte)
    few_flag = refuses_bool Few (omega arith) (omega arith)

pub few_proxy : Refuses Few (proxy false)
unfolding proxy
few_proxy = refuses_bind Few _ _ few_identity λ (l : ℕ × ℕ). refuses_pick Few (eqb l.0 0) (pure tt) (reference false) (refuses_pure Few tt) few_reference

pub few_generals : Refuses Few generals
unfolding generals referenced counted named
few_generals =
    refuses_bind Few _ _ (refuses_mapc Few identity few_identity (λ (l : ℕ × ℕ) _. l.0)) λ n. refuses_pick Few (eqb n 0) (pure 0) _ (refuses_pure Few 0)
    (refuses_bind Few _ _ few_facets λ _. refuses_bind Few _ _ (few_skip 6) λ _. few_size)
