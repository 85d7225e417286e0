use Rattle.pictures.specs.Picture.{takes, fits_of}
use Rattle.forms.specs.Forms.{resource_object}
use Rattle.forms.proofs.is_resource_object.Goals as goal

pub returns : goal.returns
unfolding resource_object takes fits_of
returns c = c.fits.ensures
