use Rattle.pictures.specs.Picture.{takes, fits_of}
use Rattle.forms.specs.Forms.{party}
use Rattle.forms.proofs.is_party.Goals as goal

pub returns : goal.returns
unfolding party takes fits_of
returns c = c.fits.ensures
