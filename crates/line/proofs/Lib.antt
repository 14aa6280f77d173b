pub mod DecimalLaws
pub mod ReadLaws
pub mod LineLaws
pub mod TextLaws
pub mod UniqueLaws
pub mod DecidedLaws
pub mod RoomLaws
