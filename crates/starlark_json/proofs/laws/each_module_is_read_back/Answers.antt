use Rattle.starlark_json.proofs.Fits.Texts.{each_module_is_read_back}
use Rattle.starlark_json.proofs.laws.each_module_is_read_back.Goals as goal

pub returns : goal.returns
returns c = each_module_is_read_back
