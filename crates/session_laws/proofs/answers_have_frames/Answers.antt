use Rattle.session_laws.proofs.Fitting.{answers_have_frames}
use Rattle.session_laws.proofs.answers_have_frames.Goals as goal

pub returns : goal.returns
returns c = answers_have_frames
