-- Four numbers of eight bytes, put one after another, are the 32 bytes of the state. Assumes nothing.
use Rattle.guard.proofs.Storing.{state_put}
use Rattle.guard.proofs.put_state.Goals as goal

pub returns : goal.returns
returns c = search state_put
