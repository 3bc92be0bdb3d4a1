-- What stands at the place.
use Rattle.homeo_build.proofs.FormsMade.{form_below, form_found}
use Rattle.homeo_build.proofs.forms.Forms.form.Goals as goal

pub bounds-forms-place : goal.bounds-forms-place
bounds-forms-place c =
    form_below c.args.self.now.forms.items c.as_slice-forms.result.now c.args.self.now.places.items c.as_slice-places.result.now c.args.call
    c.as_slice-forms.ensures c.as_slice-places.ensures.value c.requires.placed

pub returns : goal.returns
returns c =
    form_found c.args.self.now.forms.items c.as_slice-forms.result.now c.args.self.now.places.items c.as_slice-places.result.now c.args.call
    c.as_slice-forms.ensures c.as_slice-places.ensures.value c.requires.placed c.index-forms-place.result c.index-forms-place.is
