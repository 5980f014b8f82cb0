-- 22 says how many bytes are needed; every other outcome is that of any room. Assumes nothing.
use Rattle.writing.proofs.Outcomes.{fits_made, fits_stopped, fits_needed, fit_made, fit_other, fit_over, fit_room, fit_fits}
use Rattle.writing.proofs.fit.Goals as goal

pub returns-then-refusal-room : goal.returns-then-refusal-room
returns-then-refusal-room c = (search fit_fits, search fits_needed)

pub returns-in-Ok : goal.returns-in-Ok
returns-in-Ok c = (search fit_made, search fits_made)

pub returns-else-refusal-room : goal.returns-else-refusal-room
returns-else-refusal-room c = (search fit_room, search fits_stopped)

pub returns-else-refusal-le65536 : goal.returns-else-refusal-le65536
returns-else-refusal-le65536 c = (search fit_over, search fits_stopped)

pub returns-else-refusal-eq22 : goal.returns-else-refusal-eq22
returns-else-refusal-eq22 c = (search fit_other, search fits_stopped)
