-- Every promise of `EndpointDemands`; `Promised` in proofs/ joins each to its proof.
use Rattle.endpoint.specs.EndpointDemands.{EndpointExact, OtherExact, HostThere, EndpointBack, EndpointAgain, WriteRefused, OpenWithin, OpenRefused}

-- all promises together
pub record Promises : Type 0 where
  pub exact : EndpointExact
  pub other : OtherExact
  pub host : HostThere
  pub back : EndpointBack
  pub again : EndpointAgain
  pub writer_refuses : WriteRefused
  pub within : OpenWithin
  pub refuses : OpenRefused
