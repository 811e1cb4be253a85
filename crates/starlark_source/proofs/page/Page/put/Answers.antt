use Rattle.starlark_source.proofs.PageLemmas.{put_on}
use Rattle.starlark_source.proofs.page.Page.put.Goals as goal

pub returns-in-Ok : goal.returns-in-Ok
returns-in-Ok c = put_on _ _ _ c.in-None.is c.in-None.is c.in-Ok.ensures.bytes
