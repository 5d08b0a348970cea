-- What a recording wants: a service or each, and four wishes; and the modes, all off. 01, "Keep, drop, ready"; for copy-all "Finding packets".
use Rattle.std.specs.Prelude.{ℕ, Bool, true, false, ◌&&◌, ◌||◌, eqb}
use Rattle.meaning.specs.Tables.{Entry}
use Rattle.meaning.specs.declared.Part.{Part}
use Rattle.meaning.specs.declared.Part.TheVariants.{Caption, Carousel, Other}
use Rattle.meaning.specs.declared.Service.{Service}
use Rattle.meaning.specs.declared.Service.TheVariants.{Every, Only}
use Rattle.meaning.specs.declared.Options.{Options}
use Rattle.meaning.specs.declared.Modes.{Modes}

abbrev pub wanted : Options → Part → Bool
wanted o Caption = o.caption
wanted o Carousel = o.carousel
wanted o Other = o.other

abbrev pub wanted_entry : Options → Entry → Bool
wanted_entry o e = wanted o e.part

-- Each service is ours where none is named.
abbrev pub ours : Service → ℕ → Bool
ours Every s = true
ours (Only n) s = eqb n s

abbrev pub every_service : Service → Bool
every_service Every = true
every_service (Only n) = false

-- Captions or other assets: a recording of neither is refused. 02 [1].
unfoldable pub wants_assets : Options → Bool
wants_assets o = o.caption || o.other

-- The captions-only profile: captions and tables of a service, or of each. 02 [1].
unfoldable pub captions_only : Service → Options
captions_only s = record { service = s; caption = true; carousel = false; eit = false; other = false }

-- Copy-all: no service, all four wishes on.
unfoldable pub copies_all : Options → Bool
copies_all o = every_service o.service && o.caption && o.carousel && o.eit && o.other

-- The filter of 01. 02 [2].
abbrev pub all_off : Modes
all_off = record { plain_ip = false }
