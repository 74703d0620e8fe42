-- What is not sent.
use Rattle.decision.specs.declared.Post.{Post}
use Rattle.decision.specs.declared.Post.TheVariants.{Nothing}

-- nothing is sent, nowhere
abbrev pub no_post : Post
no_post = Nothing
