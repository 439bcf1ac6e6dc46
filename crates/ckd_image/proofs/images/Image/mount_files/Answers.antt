use Rattle.std.proofs.Common.{◌∙◌, ap, sym, refl}
use Rattle.ckd_image.specs.Header.{mount_of, volume_of}
use Rattle.ckd_image.specs.Files.{each, listed}
use Rattle.ckd_image.proofs.MountLemmas.{mounts_by, files_refused}
use Rattle.ckd_image.proofs.ReadLemmas.{each-lent, each-array}
use Rattle.ckd_image.proofs.ImageLemmas.{holds_slots}
use Rattle.ckd_image.proofs.images.Image.mount_files.Goals as goal

pub image_of-requires : goal.image_of-requires
image_of-requires g c =
    let lent = c.as_mut_slice.ensures.value in
    let volume = sym (c.volume_of_files.ensures ∙ ap volume_of c.as_slice.ensures.value) ∙ c.in-Ok-volume_of_files.is in
    ap mount_of (each-array g.S.ImageStore.content c.args.files.items _ c.read_headers.new.files (listed c.stores_of.result) _ lent
    c.read_headers.auto.files c.read_headers.ensures.kept (c.stores_of.ensures ∙ c.in_array.ensures))
    ∙ mounts_by (each g.S.ImageStore.content c.args.files.items) c.in-Ok.headers.items c.in-Ok-volume_of_files.geometry
    (rw lent at c.in-Ok.ensures.ok) volume

pub returns-in-Ok-volume_of_files : goal.returns-in-Ok-volume_of_files
returns-in-Ok-volume_of_files g c =
    let items = c.args.files.items in
    let new = c.read_headers.new.files in
    let lent = c.as_mut_slice.ensures.value in
    let read = c.read_headers.ensures in
    let files = c.stores_of.ensures ∙ c.in_array.ensures in
    let volume = sym (c.volume_of_files.ensures ∙ ap volume_of c.as_slice.ensures.value) ∙ c.in-Ok-volume_of_files.is in
    let content = each-array g.S.ImageStore.content items _ new (listed c.stores_of.result) _ lent c.read_headers.auto.files read.kept files
    in
    let origins = each-array g.S.ImageStore.origin items _ new (listed c.stores_of.result) _ lent c.read_headers.auto.files read.same files
    in
    let failures = each-array g.S.ImageStore.failures items _ new (listed c.stores_of.result) _ lent c.read_headers.auto.files
    c.in-Ok.ensures.none files in
    let mounts = mounts_by (each g.S.ImageStore.content items) c.in-Ok.headers.items c.in-Ok-volume_of_files.geometry
    (rw lent at c.in-Ok.ensures.ok) volume in
    rw (c.image_of.ensures, content, origins, failures) (record {
      holds =
          holds_slots c.in-Ok-volume_of_files.geometry (each g.S.ImageStore.content items) mounts;
      image = refl;
      refused = tt;
      kept =
          tt;
      same = tt;
      there = tt;
    })

pub returns-in-Err-volume_of_files-clause-refused : goal.returns-in-Err-volume_of_files-clause-refused
returns-in-Err-volume_of_files-clause-refused g c =
    let items = c.args.files.items in
    let lent = c.as_mut_slice.ensures.value in
    files_refused (each g.S.ImageStore.content items) (each g.S.ImageStore.failures items) _ c.in-Ok.headers.items
    c.in-Err-volume_of_files.fault (rw lent at c.in-Ok.ensures.ok) (sym (c.volume_of_files.ensures
    ∙ ap volume_of c.as_slice.ensures.value) ∙ c.in-Err-volume_of_files.is)
    (each-lent g.S.ImageStore.failures items _ c.read_headers.new.files lent c.read_headers.auto.files c.in-Ok.ensures.none)
