-- What depends on the version of a log: all of it stands here.
use Rattle.std.specs.Prelude.{ℕ, ◌+◌, nat_eq, if◌then◌else◌}
pub use Rattle.session_options.specs.Versions.{is_known, has_clocks, most_writers}
use Rattle.checkpoint_io.specs.declared.version.TheConstants.{MAX_BODY}

-- how many bytes the number of writers, and each writer, has
abbrev pub writer_len : ℕ → ℕ
writer_len version = if nat_eq version 1 then 1 else 2

abbrev pub most_body : ℕ → ℕ
most_body version = if nat_eq version 1 then MAX_BODY else 1048576

-- `NLOG`, the version, the number of writers, and three numbers of eight bytes
abbrev pub header_len : ℕ → ℕ
header_len version = 29 + writer_len version

-- in front of a body: the tag, the writer, and the length in four bytes
abbrev pub extent_head_len : ℕ → ℕ
extent_head_len version = 5 + writer_len version

-- a close mark: the tag and the writer
abbrev pub close_len : ℕ → ℕ
close_len version = 1 + writer_len version
