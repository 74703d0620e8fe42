-- What goes on of a reply.
use Rattle.std.specs.Prelude.{ℕ, Bool, cond, eqb}
use Rattle.plain.specs.Request.{with_rank}
use Rattle.message.specs.declared.Parsed.{Parsed}
use Rattle.decision.specs.declared.Post.{Post}
use Rattle.decision.specs.declared.Post.TheVariants.{Nothing, Path}

-- a message with another rank
unfoldable pub raised : Parsed → ℕ → Parsed
raised p rank = record {
  base = with_rank p.base rank;
  configuration = p.configuration;
  discovery = p.discovery;
  n = p.n;
  count = p.count;
  targets = p.targets;
}

-- "OrigNode .. sends nothing": of n addresses it tells the caller
abbrev pub path_goes : ℕ → Bool → Post
path_goes n turned = cond (eqb n 0) Nothing (Path n turned)
