use Rattle.pictures.specs.Picture.{fits_of, test}
use Rattle.pictures.proofs.fits.Goals as goal

pub returns : goal.returns
unfolding fits_of test
returns c = c.is_held.ensures
