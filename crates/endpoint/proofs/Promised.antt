-- Each promise of `Promises` joined to its proof.
use Rattle.endpoint.proofs.EndpointLaws.{endpoint_exact, other_exact, host_there, endpoint_back, endpoint_again, write_refused}
use Rattle.endpoint.proofs.RefusalLaws.{open_within}
use Rattle.endpoint.proofs.OpenRefusals.{open_refused}
use Rattle.endpoint.specs.Promises.{Promises}

-- and their proofs
pub promises : Promises
promises = record {
  exact = endpoint_exact;
  other = other_exact;
  host = host_there;
  back = endpoint_back;
  again = endpoint_again;
  writer_refuses = write_refused;
  within = open_within;
  refuses = open_refused;
}
