pub mod DecompressionLaws
pub mod UnwrittenClocks
pub mod TextLaws
