-- What each exported function says, and the round trips of what they say.
use mathlib.Core.Path.{sym, ap, ◌∙◌}
use mathlib.Core.List.{List}
use Prim.Native.Nat.{ℕ}
use Rattle.sheet_archive.specs.Archive.{archive_after, restored_after}
use Rattle.sheet_archive.proofs.RoundTrips.{calls_back, answered-sizes}
use Rattle.ssp.proofs.Contract.{archive-says, restore-says}
use Rattle.theorem_ssp.specs.Archives.{ArchivesBack}

pub archives-back : ArchivesBack
archives-back =
    record {
      restored =
          λ κs a r s p zero κs' a' r' s' p' zero' same bytes.
          let said = archive-says κs a r s p in
          let said' = restore-says κs' a' r' s' p' in
          let sizes = answered-sizes a.0.now a.1.0.now (sym said.0 ∙ zero) in
          let sizes' = answered-sizes a'.0.now a'.1.0.now (sym said'.0 ∙ zero') in
          said'.1
          ∙ ap (λ (l : List ℕ). restored_after l a'.1.0.now) (same ∙ said.1)
          ∙ calls_back.restored a.0.now a.1.0.now a'.1.0.now (record { long = sizes.0; bytes = bytes }) sizes.1 sizes'.1;
      valid =
          λ κs a r s p zero κs' a' r' s' p' zero' same bytes.
          let said = restore-says κs a r s p in
          let said' = archive-says κs' a' r' s' p' in
          let sizes = answered-sizes a.0.now a.1.0.now (sym said.0 ∙ zero) in
          let sizes' = answered-sizes a'.0.now a'.1.0.now (sym said'.0 ∙ zero') in
          said'.1
          ∙ ap (λ (l : List ℕ). archive_after l a'.1.0.now) (same ∙ said.1)
          ∙ calls_back.valid a.0.now a.1.0.now a'.1.0.now (record { long = sizes.0; bytes = bytes }) sizes.1 sizes'.1;
    }
