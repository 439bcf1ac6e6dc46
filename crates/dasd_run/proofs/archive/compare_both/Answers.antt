use Rattle.std.proofs.Common.{◌≡◌, ◌∙◌, ℕ, List, map, inl, inr, refl, ap, subst}
use Rattle.std.proofs.lemmas.Result.{err_from_is_err_and}
use Rattle.counted_io.specs.Streams.{seen_by}
use Rattle.dasd_volumes.specs.declared.forms.Style.{Style}
use Rattle.dasd_jobs.specs.Sources.{OpenedState, volume_in}
use Rattle.dasd_run.specs.Compared.{one_of, other_of, ComparesVolumes}
use Rattle.dasd_run.specs.Paths.{quoted_paths}
use Rattle.dasd_run.specs.Printed.{style_of}
use Rattle.dasd_run.proofs.archive.compare_both.Goals as goal

pub returns-clause-compares : goal.returns-clause-compares
returns-clause-compares g c = rw (← c.host.view_is) (inr (record {
  between = g.F.ImageFiles.opened c.open_volume.new.files;
  so = record {
    geometry = v.geometry;
    contents = v.contents;
    opens = rw c.as_slice-one.ensures.value at c.in_ok-volume.ensures.opens;
    mounts = c.in_ok-volume.ensures.mounts;
    so = record {
      geometry = w.geometry;
      contents = w.contents;
      opens = rw c.as_slice-other.ensures.value at c.in_ok-beside.ensures.opens;
      mounts = c.in_ok-beside.ensures.mounts;
      so = compares;
    };
  };
}))
  where
    v : OpenedState
    v = c.in_ok-volume.volume

    w : OpenedState
    w = c.in_ok-beside.beside

    Compares : Style → (path other : List ℕ) → Type 0
    Compares style path other =
        ComparesVolumes c.compare_opened.result style path other c.args.asked.now.lists (volume_in v.geometry v.contents)
        (volume_in w.geometry w.contents)
        (seen_by g.W.Write.contents c.host.inside.writer) (seen_by g.W.Write.contents c.compare_opened.new.writer)

    path_is : c.as_str.result.now ≡ quoted_paths (one_of c.args.asked.now)
    path_is = c.as_str.ensures.value
        ∙ (c.in_ok-path.ensures.text ∙ ap quoted_paths (ap (map (λ path. path.now)) c.as_slice-one.ensures.value))

    other_is : c.as_str-2.result.now ≡ quoted_paths (other_of c.args.asked.now)
    other_is = c.as_str-2.ensures.value
        ∙ (c.in_ok-other_path.ensures.text ∙ ap quoted_paths (ap (map (λ path. path.now)) c.as_slice-other.ensures.value))

    compares : Compares (style_of c.args.asked.now.json) (quoted_paths (one_of c.args.asked.now)) (quoted_paths (other_of c.args.asked.now))
    compares =
        subst (Compares (style_of c.args.asked.now.json) (quoted_paths (one_of c.args.asked.now))) other_is
        (subst (λ path. Compares (style_of c.args.asked.now.json) path c.as_str-2.result.now) path_is
        (subst (λ style. Compares style c.as_str.result.now c.as_str-2.result.now) c.style.ensures c.compare_opened.ensures))

-- the other volume is not opened
pub returns-in_err-beside-clause-compares : goal.returns-in_err-beside-clause-compares
returns-in_err-beside-clause-compares g c =
    let p = err_from_is_err_and c.from_residual-in_err-beside.result c.from_residual-in_err-beside.ensures.1 in
    rw (p.1, p.2, ← c.host.view_is, ← c.as_slice-one.ensures.value, ← c.as_slice-other.ensures.value)
    (inl (inr (
      g.F.ImageFiles.opened c.open_volume.new.files,
      record {
        geometry = c.in_ok-volume.volume.geometry;
        contents = c.in_ok-volume.volume.contents;
        opens = c.in_ok-volume.ensures.opens;
        mounts = c.in_ok-volume.ensures.mounts;
        so = tt;
      },
      (c.in_err-beside.ensures.not_opened, refl),
    )))
