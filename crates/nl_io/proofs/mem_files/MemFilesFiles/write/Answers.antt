use Rattle.std.proofs.Common.{ℕ, List, Some, ◌≡◌, ◌++◌, ◌∙◌, ap, sym, take, refl, string_bytes}
use Rattle.std.specs.Prelude.{option_copied}
use Rattle.std.specs.FinMap as map
use Rattle.nl_io.specs.Desk.{Held, held_at}
use Rattle.nl_io.specs.MemFiles.{desk_of, held_of}
use Rattle.nl_io.proofs.Tables.{by_id-has, by_id-content, found_ref}
use Rattle.nl_io.proofs.mem_files.MemFilesFiles.write.Goals as goal

pub unwrap-name-requires : goal.unwrap-name-requires
unwrap-name-requires c = found_ref c.get.result _ c.get.ensures.value (by_id-has (λ name. Some (string_bytes name)) c.args.self.now.made c.args.id c.requires)

pub returns-in-Ok-clause-taken : goal.returns-in-Ok-clause-taken
returns-in-Ok-clause-taken c = record {
  put = λ name is.
      let found = sym c.get.ensures.value ∙ ap option_copied c.unwrap-name.ensures in
      let told = by_id-content (λ title. Some (string_bytes title)) c.args.self.now.made c.args.id c.unwrap-name.result.now (Some name) found is in
      let same : c.as_str.result.now ≡ name = c.as_str.ensures.value ∙ (cc) in
      ap (λ (held : Held). record (desk_of c.args.self.now) { held = Some held })
      (c.in-Ok.ensures.ok
      ∙ ap (λ (title : List ℕ). map.insert (held_of c.args.self.now) title (held_at (held_of c.args.self.now) title ++ take c.min-count.result c.args.bytes.now)) same);
  told = refl;
  rest = refl;
}
