-- What is sent, as contracts see it.
use Rattle.std.specs.Prelude.{List, option_map, Vec}
use Rattle.std.specs.Global.{Global}
use Rattle.lakectl_sent.specs.declared.message.Message.{Message}
use Rattle.lakectl_sent.specs.declared.place.Place.{Place}
use Rattle.lakectl_sent.specs.UriPlaces.{PlaceValue}
use Rattle.lakectl_sent.specs.SentMessages.{MessageValue, places_seen}

abbrev pub message_seen : Message → MessageValue
message_seen message = record {
  method = message.method.now;
  target = message.target.items;
  content_type = option_map (λ t. t.now) message.content_type;
  body = message.body.items;
}

abbrev pub sent_seen : Vec Place Global × Message → List PlaceValue × MessageValue
sent_seen sent = (places_seen sent.0, message_seen sent.1)
