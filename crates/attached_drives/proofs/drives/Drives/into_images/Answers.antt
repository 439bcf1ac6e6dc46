use Rattle.std.proofs.Common.{subst, ◌≤◌, ◌∷◌, []}
use Rattle.attached_drives.proofs.Images.{all_taken, volumes_taken}
use Rattle.attached_drives.proofs.drives.Drives.into_images.Goals as goal

pub returns-clause-images : goal.returns-clause-images
returns-clause-images g c =
    all_taken (c.take_first.result ∷ c.take_first-2.result ∷ c.take_first-3.result ∷ c.take_first-4.result ∷ c.take_first-5.result
    ∷ c.take_first-6.result ∷ c.take_first-7.result ∷ c.take_first-8.result ∷ []) c.args.self (
      c.take_first.new.self,
      c.take_first.ensures.taken,
      (
        c.take_first-2.new.self,
        c.take_first-2.ensures.taken,
        (
          c.take_first-3.new.self,
          c.take_first-3.ensures.taken,
          (
            c.take_first-4.new.self,
            c.take_first-4.ensures.taken,
            (
              c.take_first-5.new.self,
              c.take_first-5.ensures.taken,
              (
                c.take_first-6.new.self,
                c.take_first-6.ensures.taken,
                (c.take_first-7.new.self, c.take_first-7.ensures.taken, (c.take_first-8.new.self, c.take_first-8.ensures.taken, tt)),
              ),
            ),
          ),
        ),
      ),
    )
    (subst (λ n. n ≤ 8) c.len-count.ensures.count c.len-count.ensures.few)

pub returns-clause-volumes : goal.returns-clause-volumes
returns-clause-volumes g c =
    volumes_taken (c.take_first.result ∷ c.take_first-2.result ∷ c.take_first-3.result ∷ c.take_first-4.result ∷ c.take_first-5.result
    ∷ c.take_first-6.result ∷ c.take_first-7.result ∷ c.take_first-8.result ∷ []) c.args.self (
      c.take_first.new.self,
      c.take_first.ensures.taken,
      (
        c.take_first-2.new.self,
        c.take_first-2.ensures.taken,
        (
          c.take_first-3.new.self,
          c.take_first-3.ensures.taken,
          (
            c.take_first-4.new.self,
            c.take_first-4.ensures.taken,
            (
              c.take_first-5.new.self,
              c.take_first-5.ensures.taken,
              (
                c.take_first-6.new.self,
                c.take_first-6.ensures.taken,
                (c.take_first-7.new.self, c.take_first-7.ensures.taken, (c.take_first-8.new.self, c.take_first-8.ensures.taken, tt)),
              ),
            ),
          ),
        ),
      ),
    )
    (subst (λ n. n ≤ 8) c.len-count.ensures.count c.len-count.ensures.few)
