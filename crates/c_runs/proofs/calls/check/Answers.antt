use Rattle.std.proofs.Common.{rules, refl}
use Rattle.interp.specs.Image.{as_image}
use Rattle.c_runs.proofs.calls.check.Goals as goal

pub returns-in-Ok : goal.returns-in-Ok
returns-in-Ok c =
    let e = c.in-Ok.ensures in
    record {
      image = as_image c.in-Ok._image;
      file_is = record { file_is = e.found; typable = e.typable };
      room = search rules;
      same = refl;
    }
